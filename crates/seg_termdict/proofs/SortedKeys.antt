-- The keys of a dictionary, all together.
use Rattle.std.proofs.Common.{◌≡◌, ℕ, zero, suc, ◌+◌, ◌<◌, ◌≤◌, List, map, arith}
use Rattle.std.specs.List.{AllByRecursion, range_with_len}
use Rattle.std.specs.List.Sorted.{IsStrictlySortedBy}
use Rattle.std.specs.Ordering.{nat_cmp}
use Rattle.std.specs.Cmp.Lexicographic.{slice_cmp}
use Rattle.std.specs.declared.cmp.Ordering.TheVariants.{Less}
use Rattle.seg_termdict.specs.Dictionary.{Term, AreKeys, key_of, term_of, terms_in, terms_of, IsDictionary}
use Rattle.seg_termdict.proofs.KeyOrder.{rising}

module _ (ends keys infos : List ℕ) (count : ℕ) (are : AreKeys ends keys count) where
  above : (i from n : ℕ) → i < from → from + n ≤ count → AllByRecursion (λ y. slice_cmp nat_cmp (key_of ends keys i) y ≡ Less) (map (λ (t : Term). t.0) (map (term_of ends keys infos) (range_with_len from n)))
  above i from zero lt le = tt
  above i from (suc n) lt le = (rising ends keys count are i from lt (omega (arith, le)), above i (from + 1) n (omega (arith, lt)) (omega (arith, le)))

  sorted_from : (from n : ℕ) → from + n ≤ count → IsStrictlySortedBy (slice_cmp nat_cmp) (map (λ (t : Term). t.0) (map (term_of ends keys infos) (range_with_len from n)))
  unfolding IsStrictlySortedBy
  sorted_from from zero le = tt
  sorted_from from (suc n) le = (above from (from + 1) n (omega arith) (omega (arith, le)), sorted_from (from + 1) n (omega (arith, le)))

-- they strictly rise
pub dictionary_sorted : (bytes : List ℕ) → IsDictionary bytes → IsStrictlySortedBy (slice_cmp nat_cmp) (map (λ (t : Term). t.0) (terms_of bytes))
unfolding terms_of terms_in
dictionary_sorted bytes d = sorted_from _ _ _ _ d.keys 0 _ (omega arith)
