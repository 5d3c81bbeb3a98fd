-- Positions that are read never fall.
use Rattle.std.proofs.Common.{◌≡◌, ℕ, zero, suc, ◌+◌, ◌-◌, ◌^◌, ◌<◌, Bool, true, false, List, [], ◌++◌, Option, Some, None, refl, sym, ◌∙◌, subst, arith}
use Rattle.std.specs.Prelude.{option_map, nat_le, nat_lt}
use borrow.Author.Tests.{ltb-true}
use Rattle.seg_common.specs.Varint.{varint_at}
use Rattle.seg_postings.specs.Postings.{in_bounds, number_at, positions_at}
use Rattle.seg_postings.specs.WritablePostings.{Rise}
use Rattle.seg_postings.proofs.AscendingPostings.{after, mapped}

pub none_rise : (ps : List ℕ) → ps ≡ [] → Rise 0 ps
none_rise ps none = subst (Rise 0) (sym none) tt

limited : (limit : ℕ) (bytes : List ℕ) (n : ℕ × List ℕ) → number_at 0 limit bytes ≡ Some n → n.0 < limit
limited limit bytes n e =
    let read = after (in_bounds 0 limit) (varint_at bytes) n e in
    by read.value (nat_le 0 read.value.0) (nat_lt read.value.0 limit) refl refl read.next
  where
    by : (v : ℕ × List ℕ) (a b : Bool) → nat_le 0 v.0 ≡ a → nat_lt v.0 limit ≡ b → in_bounds 0 limit v ≡ Some n → n.0 < limit
    by v true true p q h =
        let kept : (let o : Option (ℕ × List ℕ) = Some v in o) ≡ Some n = sym (rw (p, q) refl) ∙ h in
        let same : v ≡ n = cc in
        subst (λ (x : ℕ × List ℕ). x.0 < limit) same (ltb-true v.0 limit q)
    by v true false p q h = absurd (let none : (let o : Option (ℕ × List ℕ) = None in o) ≡ Some n = sym (rw (p, q) refl) ∙ h in cc none)
    by v false b p q h = absurd (let none : (let o : Option (ℕ × List ℕ) = None in o) ≡ Some n = sym (rw p refl) ∙ h in cc none)

read_rise : (n before : ℕ) (bytes : List ℕ) (r : List ℕ × List ℕ) → positions_at n before bytes ≡ Some r → Rise before r.0
unfolding positions_at
read_rise zero before bytes r e = let same : ([], bytes) ≡ r = cc in subst (λ (x : List ℕ × List ℕ). Rise before x.0) same tt
read_rise (suc n) before bytes r e =
    let p = after _ (number_at 0 (2 ^ 32 - before) bytes) r e in
    let rest = mapped _ (positions_at n (before + p.value.0) p.value.1) r p.next in
    let low = limited (2 ^ 32 - before) bytes p.value p.is in
    subst (λ (x : List ℕ × List ℕ). Rise before x.0) rest.same (omega arith, omega (arith, low), read_rise n (before + p.value.0) p.value.1 rest.value rest.is)

-- so do those that are put after none
pub put_rise : (count : ℕ) (bytes out : List ℕ) → option_map (λ r. [] ++ r.0) (positions_at count 0 bytes) ≡ Some out → Rise 0 out
put_rise count bytes out e =
    let read = mapped (λ (r : List ℕ × List ℕ). [] ++ r.0) (positions_at count 0 bytes) out e in
    subst (Rise 0) read.same (read_rise count 0 bytes read.value read.is)
