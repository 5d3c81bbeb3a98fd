-- Fewer postings than 2^32 are left, since documents ascend.
use Rattle.std.proofs.Common.{◌≡◌, ℕ, zero, suc, ◌+◌, ◌-◌, ◌^◌, ◌<◌, Bool, true, false, List, length, Option, Some, None, refl, sym, ap, ◌∙◌, subst, arith}
use Rattle.std.specs.Prelude.{nat_le, nat_lt}
use Rattle.std.proofs.lemmas.Bool.{ltb-true}
use Rattle.seg_common.specs.Varint.{varint_at}
use Rattle.seg_model.specs.DocumentTerms.{Posting}
use Rattle.seg_postings.specs.declared.documents.CountedDocument.{CountedDocument}
use Rattle.seg_postings.specs.declared.record_kind.RecordKind.{RecordKind}
use Rattle.seg_postings.specs.Postings.{Counted, in_bounds, number_at, count_at, counts_at, postings_by}
use Rattle.seg_postings.specs.RemainingPostings.{postings_at}
use Rattle.seg_postings.specs.OpenPostings.{left_from, can_be_read}
use Rattle.seg_postings.proofs.CheckedFields.{length_at}
use Rattle.seg_postings.proofs.AscendingPostings.{after, mapped, bounded}
use Rattle.seg_postings.proofs.PostingsStreams.{stands, ended}

-- a number that is read lies below its limit
limited : (least limit : ℕ) (bytes : List ℕ) (n : ℕ × List ℕ) → number_at least limit bytes ≡ Some n → n.0 < limit
limited least limit bytes n e =
    let read = after (in_bounds least limit) (varint_at bytes) n e in
    by read.value (nat_le least read.value.0) (nat_lt read.value.0 limit) refl refl read.next
  where
    by : (v : ℕ × List ℕ) (a b : Bool) → nat_le least v.0 ≡ a → nat_lt v.0 limit ≡ b → in_bounds least limit v ≡ Some n → n.0 < limit
    by v true true p q h =
        let kept : (let o : Option (ℕ × List ℕ) = Some v in o) ≡ Some n = sym (rw (p, q) refl) ∙ h in
        let same : v ≡ n = cc in
        subst (λ (x : ℕ × List ℕ). x.0 < limit) same (ltb-true v.0 limit q)
    by v true false p q h = absurd (let none : (let o : Option (ℕ × List ℕ) = None in o) ≡ Some n = sym (rw (p, q) refl) ∙ h in cc none)
    by v false b p q h = absurd (let none : (let o : Option (ℕ × List ℕ) = None in o) ≡ Some n = sym (rw p refl) ∙ h in cc none)

-- the last of this many documents after one lies below the limit
below : (kind : RecordKind) (n before : ℕ) (bytes : List ℕ) (cs : List Counted) → before < 2 ^ 32 - 1 → counts_at kind n before 1 bytes ≡ Some cs → before + n < 2 ^ 32 - 1
unfolding counts_at
below kind zero before bytes cs low e = omega (arith, low)
below kind (suc n) before bytes cs low e =
    let d = after _ (number_at 1 (2 ^ 32 - 1 - before) bytes) cs e in
    let c = after _ (count_at kind d.value.1) cs d.next in
    let rest = mapped _ (counts_at kind n (before + d.value.0) 1 c.value.1) cs c.next in
    let least = bounded 1 (2 ^ 32 - 1 - before) bytes d.value d.is in
    let limit = limited 1 (2 ^ 32 - 1 - before) bytes d.value d.is in
    let more = below kind n (before + d.value.0) c.value.1 rest.value (omega (arith, low, limit)) rest.is in
    omega (arith, least, more)

-- so there are fewer of them than numbers
few_behind : (kind : RecordKind) (n before : ℕ) (bytes : List ℕ) (cs : List Counted) → counts_at kind n before 1 bytes ≡ Some cs → n < 2 ^ 32 - 1
unfolding counts_at
few_behind kind zero before bytes cs e = omega arith
few_behind kind (suc n) before bytes cs e =
    let d = after _ (number_at 1 (2 ^ 32 - 1 - before) bytes) cs e in
    let c = after _ (count_at kind d.value.1) cs d.next in
    let rest = mapped _ (counts_at kind n (before + d.value.0) 1 c.value.1) cs c.next in
    let least = bounded 1 (2 ^ 32 - 1 - before) bytes d.value d.is in
    let limit = limited 1 (2 ^ 32 - 1 - before) bytes d.value d.is in
    let more = below kind n (before + d.value.0) c.value.1 rest.value (omega (arith, limit)) rest.is in
    omega (arith, least, more)

few_postings : (kind : RecordKind) (n before : ℕ) (bytes qs : List ℕ) (ps : List Posting) → postings_at kind n before 1 bytes qs ≡ Some ps → length ps < 2 ^ 32 - 1
unfolding postings_at
few_postings kind n before bytes qs ps e =
    let cs = after (λ cs. postings_by kind cs qs) (counts_at kind n before 1 bytes) ps e in
    omega (arith, length_at kind n before 1 bytes qs ps e, few_behind kind n before bytes cs.value cs.is)

-- what is left for a reader
pub few_left : (kind : RecordKind) (current : Option CountedDocument) (n : ℕ) (bytes qs : List ℕ) → can_be_read kind current n bytes qs ≡ true → length (left_from kind current n bytes qs) < 2 ^ 32
few_left kind current n bytes qs good = by current refl
  where
    by : (o : Option CountedDocument) → current ≡ o → length (left_from kind current n bytes qs) < 2 ^ 32
    by None is = omega (arith, ap length (ended kind current n bytes qs is))
    by (Some d) is =
        let at = stands kind current d n bytes qs is good in
        let rest = few_postings kind n d.document bytes at.head.after at.head.rest at.head.is_rest in
        omega (arith, ap length at.left, rest)
