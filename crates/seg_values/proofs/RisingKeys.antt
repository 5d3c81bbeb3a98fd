-- Entries whose keys strictly rise.
use Rattle.std.proofs.Common.{◌≡◌, ℕ, true, List, [], ◌∷◌, map, refl, ap}
use Rattle.std.specs.FinMap.{is_sorted}
use Rattle.std.specs.FinMap.Entries.{below_all}
use Rattle.std.specs.List.{AllByRecursion}
use Rattle.std.specs.List.Sorted.{IsStrictlySortedBy}
use Rattle.std.specs.Ordering.{nat_cmp, is_lt}
use Rattle.std.specs.Cmp.Lexicographic.{slice_cmp}
use Rattle.std.specs.declared.cmp.Ordering.TheVariants.{Less}
use Rattle.std.proofs.lemmas.Bool.{and_from}

module _ {Y : Type 0} where
  -- they are sorted
  pub is_sorted-rising : (es : List (List ℕ × Y)) → IsStrictlySortedBy (slice_cmp nat_cmp) (map (λ e. e.0) es)
      → is_sorted (slice_cmp nat_cmp) es ≡ true
  unfolding IsStrictlySortedBy
  is_sorted-rising [] h = refl
  is_sorted-rising (e ∷ es) h = and_from _ _ (all es h.0) (is_sorted-rising es h.1)
    where
      all : (fs : List (List ℕ × Y)) → AllByRecursion (λ y. slice_cmp nat_cmp e.0 y ≡ Less) (map (λ f. f.0) fs)
          → below_all (slice_cmp nat_cmp) e.0 fs ≡ true
      all [] h = refl
      all (f ∷ fs) h = and_from _ _ (ap is_lt h.0) (all fs h.1)
