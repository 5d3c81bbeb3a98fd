-- The order of paths and kinds.
use Rattle.std.proofs.Common.{◌≡◌, ℕ, true, List, sym, ap}
use Rattle.std.specs.Cmp.{IsTotalOrder}
use Rattle.std.specs.Cmp.Lexicographic.{nat_list_cmp_total, slice_cmp}
use Rattle.std.specs.Ordering.{is_lt, nat_cmp, on, ordering_reverse, then_cmp}
use Rattle.std.specs.declared.cmp.Ordering.{Ordering}
use Rattle.std.specs.declared.cmp.Ordering.TheVariants.{Less, Equal, Greater}
use Rattle.std.proofs.lemmas.Bool.{false≢true}
use Rattle.std.proofs.lemmas.Cmp.{nat_cmp_total, on_total, then_total}
use Rattle.seg_common.proofs.Numbers.{is_less}

abbrev pub Key : Type 0
Key = List ℕ × ℕ

abbrev pub key_cmp : Key → Key → Ordering
key_cmp = then_cmp (on (λ (k : Key). k.0) (slice_cmp nat_cmp)) (on (λ (k : Key). k.1) nat_cmp)

key_total : IsTotalOrder key_cmp
key_total = then_total (on_total (λ (k : Key). k.0) nat_list_cmp_total) (on_total (λ (k : Key). k.1) nat_cmp_total)

pub key_then : (a b c : Key) → is_lt (key_cmp a b) ≡ true → is_lt (key_cmp b c) ≡ true → is_lt (key_cmp a c) ≡ true
key_then a b c first second =
    ap is_lt (key_total.trans a b c (is_less (key_cmp a b) first) (is_less (key_cmp b c) second))

-- no key is below itself
pub key_itself : (k : Key) → is_lt (key_cmp k k) ≡ true → ⊥
key_itself k below = by (key_cmp k k) (key_total.antisymm k k) below
  where
    by : (r : Ordering) → r ≡ ordering_reverse r → is_lt r ≡ true → ⊥
    by Less e below = false≢true (sym (ap is_lt e))
    by Equal e below = false≢true below
    by Greater e below = false≢true below
