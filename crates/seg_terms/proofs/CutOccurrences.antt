-- Terms that are cut from one list of occurrences.
use Rattle.std.proofs.Common.{◌≡◌, ℕ, ◌+◌, ◌<◌, ◌≤◌, true, List, [], ◌∷◌, map, length, drop, get_or, sym, refl, ap, subst, ◌∙◌, arith}
use Rattle.std.specs.Ordering.{nat_cmp}
use Rattle.std.specs.Cmp.Lexicographic.{slice_cmp}
use Rattle.std.specs.FinMap.{entries, is_sorted, from_entries}
use Rattle.std.specs.List.{All, AllByRecursion, IsDistinct}
use Rattle.std.specs.List.Sorted.{IsPermutation}
use Rattle.std.specs.Map.{keys_of}
use Rattle.std.specs.Str.{bytes_eq}
use Rattle.std.proofs.lemmas.List.{drop_more}
use Rattle.std.proofs.lemmas.List.Elements.{All-from_recursion}
use Rattle.std.proofs.lemmas.List.Sorted.{All-permutation}
use Rattle.seg_model.specs.DocumentTerms.{Terms}
use Rattle.seg_terms.specs.TermEntries.{TermEntries}
use Rattle.seg_terms.specs.PostingGroups.{grouped}
use Rattle.seg_terms.specs.NumberedOccurrences.{numbered_from, numbered_terms}
use Rattle.seg_terms.specs.OrderedOccurrences.{count_below, AreOrdered}
use Rattle.seg_terms.specs.TermParts.{AreCut, entry_of, entries_of, IsWithin, cut_from}
use Rattle.seg_terms.specs.declared.hit.Hit.{Hit}
use Rattle.seg_terms.specs.declared.hit.NumberedHit.{NumberedHit}
use Rattle.seg_terms.specs.declared.term_part.TermPart.{TermPart}
use Rattle.seg_terms.proofs.TermCounts.{count_below-zero, count_below-up, count_below_few}
use Rattle.seg_terms.proofs.SortedEntries.{Up, is_sorted-seen, entries-seen}

module _ (count : ℕ) (hits : List NumberedHit) (ordered : List Hit) (ends : List ℕ)
    (is : AreOrdered count hits ordered ends) where
  ends_from : (first : ℕ) → first < count → drop first ends ≡ count_below (first + 1) hits ∷ drop (first + 1) ends
  ends_from first lt =
      let many = is.many in
      drop_more ends first 0 (omega (arith, lt, many)) ∙ ap (λ n. n ∷ drop (first + 1) ends) (is.at first lt)

  entries_from : (first : ℕ) (keys : List (List ℕ)) → first + length keys ≤ count
      → entries_of (cut_from (count_below first hits) keys (drop first ends)) ordered ≡ numbered_from first keys hits
  entries_from first [] le = refl
  entries_from first (k ∷ ks) le =
      let lt : first < count = omega (arith, le) in
      let rest = entries_from (first + 1) ks (omega (arith, le)) in
      ap (λ es. entries_of (cut_from (count_below first hits) (k ∷ ks) es) ordered) (ends_from first lt)
      ∙ (λ i. (k, grouped (is.parts first lt i)) ∷ rest i)

  within_from : (first : ℕ) (keys : List (List ℕ)) → first + length keys ≤ count
      → AllByRecursion (IsWithin (length ordered)) (cut_from (count_below first hits) keys (drop first ends))
  within_from first [] le = tt
  within_from first (k ∷ ks) le =
      let lt : first < count = omega (arith, le) in
      let up = count_below-up first (first + 1) hits (omega arith) in
      let few = count_below_few (first + 1) hits in
      let same = is.same in
      subst (λ es. AllByRecursion (IsWithin (length ordered)) (cut_from (count_below first hits) (k ∷ ks) es))
      (sym (ends_from first lt))
      (record { forward = up; within = omega (arith, few, same) }, within_from (first + 1) ks (omega (arith, le)))

  module _ (keys : List (List ℕ)) (as_many : length keys ≡ count) (terms : List TermPart)
      (cut : terms ≡ cut_from 0 keys ends) where
    from_zero : terms ≡ cut_from (count_below 0 hits) keys (drop 0 ends)
    from_zero = cut ∙ ap (λ n. cut_from n keys ends) (sym (count_below-zero hits))

    -- terms that were cut are the numbered ones
    pub entries_cut : entries_of terms ordered ≡ numbered_from 0 keys hits
    entries_cut = ap (λ (ts : List TermPart). entries_of ts ordered) from_zero
        ∙ entries_from 0 keys (omega (arith, as_many))

    -- and lie within the list
    pub within_cut : All (IsWithin (length ordered)) terms
    within_cut = subst (All (IsWithin (length ordered))) (sym from_zero)
        (All-from_recursion (IsWithin (length ordered)) _ (within_from 0 keys (omega (arith, as_many))))

pub keys_numbered : (first : ℕ) (keys : List (List ℕ)) (hits : List NumberedHit)
    → keys_of (numbered_from first keys hits) ≡ keys
keys_numbered first [] hits = refl
keys_numbered first (k ∷ ks) hits = ap (λ l. k ∷ l) (keys_numbered (first + 1) ks hits)

-- their keys are as distinct
pub distinct_cut : (keys : List (List ℕ)) (hits : List NumberedHit) (terms : List TermPart) (ordered : List Hit)
    → entries_of terms ordered ≡ numbered_from 0 keys hits → IsDistinct bytes_eq keys
    → IsDistinct bytes_eq (keys_of (map (entry_of ordered) terms))
distinct_cut keys hits terms ordered same d =
    subst (IsDistinct bytes_eq) (sym (ap keys_of same ∙ keys_numbered 0 keys hits)) d

-- a term at a place lies within
pub within_place : (count : ℕ) (terms : List TermPart) (i : ℕ) (x : TermPart) → All (IsWithin count) terms
    → i < length terms → x ≡ get_or terms i x → IsWithin count x
within_place count terms i x all lt is = subst (IsWithin count) (sym is) (all i x lt)

-- terms that were cut, and then sorted by their bytes
module _ (keys : List (List ℕ)) (hits : List NumberedHit) (terms : List TermPart) (ordered : List Hit)
    (is : AreCut keys hits terms ordered) (sorted : List TermPart) (permuted : IsPermutation terms sorted)
    (up : Up (λ (t : TermPart). t.key) sorted) where
  numbered : entries_of terms ordered ≡ numbered_from 0 keys hits
  numbered = entries_cut (length keys) hits ordered is.ends is.together keys refl terms is.cut

  apart : IsDistinct bytes_eq (keys_of (map (entry_of ordered) terms))
  apart = distinct_cut keys hits terms ordered numbered is.distinct

  -- they are in order, and lie within the list
  pub sorted_whole : (is_sorted (slice_cmp nat_cmp) (entries_of sorted ordered) ≡ true)
      × All (IsWithin (length ordered)) sorted
  sorted_whole =
      let within = within_cut (length keys) hits ordered is.ends is.together keys refl terms is.cut in
      let order = is_sorted-seen (entry_of ordered) terms sorted permuted up apart in
      (order, All-permutation (IsWithin (length ordered)) terms sorted permuted within)

  -- and are the entries of the map
  pub sorted_entries : (index : Terms) → numbered_terms keys hits ≡ index → entries_of sorted ordered ≡ entries index
  sorted_entries index seen =
      sym (entries-seen (entry_of ordered) terms sorted permuted up apart)
      ∙ ap (λ (es : TermEntries). entries (from_entries {R = slice_cmp nat_cmp} es)) numbered
      ∙ ap entries seen
