-- Numbers of which none comes twice, and the same in ascending order.
use Rattle.std.proofs.Common.{◌≡◌, ℕ, ◌+◌, ◌<◌, ◌≤◌, Bool, true, false, List, [], ◌∷◌, length, get_or, refl, sym, ap, ◌∙◌, arith}
use Rattle.std.specs.Prelude.{not, ◌&&◌, ◌||◌, nat_eq, nat_lt}
use Rattle.std.specs.List.{list_any, IsDistinct, AllByRecursion, AllAdjacentBelow, IsAllAdjacentAnswer}
use Rattle.std.specs.List.Sorted.{IsPermutation, IsSorted, IsStrictlySortedBy}
use Rattle.std.specs.Ordering.{nat_cmp}
use Rattle.std.proofs.lemmas.Bool.{false≢true, or_parts}
use Rattle.std.proofs.lemmas.Bool.Decides.{nat_tests}
use Rattle.std.proofs.lemmas.List.Sorted.{IsPermutation-sym}
use Rattle.std.proofs.lemmas.Map.Keys.{IsDistinct-IsPermutation, IsDistinct-from_apart, apart_from_distinct, sorted_from_strictly_increasing, below_from_sorted, ge_from_not_lt}
use Rattle.seg_common.proofs.Numbers.{nat_eq-sym, nat_eq-below}
use Rattle.seg_model.specs.ValidInputs.{are_distinct}

-- ---- as a test, and as a fact

not_and : (a b : Bool) → (not a && b) ≡ true → (a ≡ false) × (b ≡ true)
not_and false b h = (refl, h)
not_and true b h = absurd (false≢true h)

none_alike : (n : ℕ) (ns : List ℕ) → list_any (nat_eq n) ns ≡ false → AllByRecursion (λ m. nat_eq n m ≡ false) ns
none_alike n [] h = tt
none_alike n (m ∷ ns) h = let two = or_parts (nat_eq n m) (list_any (nat_eq n) ns) h in (two.0, none_alike n ns two.1)

not_any : (n : ℕ) (ns : List ℕ) → AllByRecursion (λ m. nat_eq n m ≡ false) ns → list_any (nat_eq n) ns ≡ false
not_any n [] h = refl
not_any n (m ∷ ns) h = ap (λ b. b || list_any (nat_eq n) ns) h.0 ∙ not_any n ns h.1

distinct_from_test : (ns : List ℕ) → are_distinct ns ≡ true → IsDistinct nat_eq ns
unfolding IsDistinct
distinct_from_test [] h = tt
distinct_from_test (n ∷ ns) h = let two = not_and (list_any (nat_eq n) ns) (are_distinct ns) h in (none_alike n ns two.0, distinct_from_test ns two.1)

test_from_distinct : (ns : List ℕ) → IsDistinct nat_eq ns → are_distinct ns ≡ true
unfolding IsDistinct
test_from_distinct [] h = refl
test_from_distinct (n ∷ ns) h = ap (λ b. not b && are_distinct ns) (not_any n ns h.0) ∙ test_from_distinct ns h.1

-- ---- sorted

above : (x y : ℕ) → true ≡ nat_lt x y → x < y
above x y h = grind (arith, nat_tests)

alike : (x y : ℕ) → x ≤ y → false ≡ nat_lt x y → nat_eq x y ≡ true
alike x y up h = grind (arith, nat_tests)

module _ (ns sorted : List ℕ) (moved : IsPermutation ns sorted) (up : IsSorted nat_cmp sorted) where
  rising : AllAdjacentBelow (λ x y. true ≡ nat_lt x y) sorted (length sorted) → IsDistinct nat_eq sorted
  rising h =
      let strict : IsStrictlySortedBy nat_cmp sorted = sorted_from_strictly_increasing sorted (λ k lt. above (get_or sorted k 0) (get_or sorted (k + 1) 0) (h k 0 lt)) in
      IsDistinct-from_apart nat_eq sorted (λ i j d lt within. nat_eq-below (get_or sorted i d) (get_or sorted j d) (below_from_sorted sorted i j d strict lt within))

  pub told_by_neighbours : (told : Bool) → IsAllAdjacentAnswer (λ x y b. b ≡ nat_lt x y) sorted told → told ≡ are_distinct ns
  told_by_neighbours true h = sym (test_from_distinct ns (IsDistinct-IsPermutation nat_eq nat_eq-sym sorted ns (IsPermutation-sym ns sorted moved) (rising h)))
  told_by_neighbours false (k, within, same) = by (are_distinct ns) refl
    where
      by : (b : Bool) → are_distinct ns ≡ b → false ≡ are_distinct ns
      by false is = sym is
      by true is = absurd (false≢true (
          sym (apart_from_distinct nat_eq sorted k (k + 1) 0 (IsDistinct-IsPermutation nat_eq nat_eq-sym ns sorted moved (distinct_from_test ns is)) (omega arith) within)
          ∙ alike (get_or sorted k 0) (get_or sorted (k + 1) 0) (ge_from_not_lt (get_or sorted (k + 1) 0) (get_or sorted k 0) (up k 0 (omega arith) within)) (same 0)))
