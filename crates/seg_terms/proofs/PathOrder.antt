-- Terms on paths in their order, by the ranks of paths.
use Rattle.std.proofs.Common.{◌≡◌, ℕ, ◌+◌, ◌<◌, true, cond, List, [], ◌∷◌, ◌++◌, map, length, get_or, drop, Some, refl, sym, append_assoc, ap, ◌∙◌, subst, arith}
use Rattle.std.specs.Prelude.{Result, Ok, Err, OnOk}
use Rattle.std.specs.Result.{is_ok}
use Rattle.std.specs.Ordering.{nat_cmp, is_lt, ordering_then}
use Rattle.std.specs.Cmp.Lexicographic.{slice_cmp}
use Rattle.std.specs.FinMap.{entries, is_sorted, from_entries}
use Rattle.std.specs.List.{All, AllByRecursion, IsDistinct, slice_get}
use Rattle.std.specs.List.Sorted.{IsPermutation}
use Rattle.std.specs.Map.{keys_of}
use Rattle.std.specs.Str.{bytes_eq}
use Rattle.std.proofs.lemmas.List.Elements.{All-from_recursion}
use Rattle.std.proofs.lemmas.List.Sorted.{All-permutation}
use Rattle.std.proofs.lemmas.Option.{same_Some, slice_get-get_or}
use Rattle.seg_model.specs.DocumentTerms.{Posting}
use Rattle.seg_paths.specs.Paths.{HaveNoZero}
use Rattle.seg_paths.specs.Ranks.{AreRanks}
use Rattle.seg_paths.proofs.Exports.{cmp-ended, no_zero-at}
use Rattle.seg_terms.specs.TermEntries.{TermEntries}
use Rattle.seg_terms.specs.PostingGroups.{grouped}
use Rattle.seg_terms.specs.NumberedOccurrences.{hits_of, numbered_from, numbered_terms}
use Rattle.seg_terms.specs.TermParts.{AreCut, IsWithin, cut_from, entries_of}
use Rattle.seg_terms.specs.PathKeys.{IsPathKey, TermsOnPaths, key_path, ranked, term_on}
use Rattle.seg_terms.specs.PathTermParts.{IsOnPath, path_entries_of, path_entry_of}
use Rattle.seg_terms.specs.declared.hit.Hit.{Hit}
use Rattle.seg_terms.specs.declared.hit.NumberedHit.{NumberedHit}
use Rattle.seg_terms.specs.declared.term_part.TermPart.{TermPart}
use Rattle.seg_terms.proofs.CutOccurrences.{entries_cut, keys_numbered, within_cut}
use Rattle.seg_terms.proofs.PathKeys.{distinct-kept, path-within}
use Rattle.seg_terms.proofs.SortedEntries.{Up, entries-seen, is_sorted-seen}

-- ---- the order of ranks is that of terms

module _ (paths : List (List ℕ)) (ranks : List ℕ) (plain : HaveNoZero paths) (are : AreRanks paths ranks) where
  in_order : (a b : List ℕ) → IsPathKey (length paths) a → IsPathKey (length paths) b
      → slice_cmp nat_cmp (ranked ranks a) (ranked ranks b) ≡ slice_cmp nat_cmp (term_on paths a) (term_on paths b)
  in_order a b is other =
      let p = key_path a in
      let q = key_path b in
      ap (λ r. ordering_then r (slice_cmp nat_cmp (drop 4 a) (drop 4 b)))
      (are.order p q (path-within (length paths) a is) (path-within (length paths) b other))
      ∙ sym (cmp-ended (get_or paths p []) (get_or paths q []) (drop 4 a) (drop 4 b) (no_zero-at paths p plain)
      (no_zero-at paths q plain))

  pub up_on_paths : (terms : List TermPart) → All (IsOnPath (length paths)) terms
      → Up (λ (t : TermPart). ranked ranks t.key) terms → Up (λ (t : TermPart). term_on paths t.key) terms
  up_on_paths terms all up k d low lt =
      ap is_lt (sym (in_order (get_or terms (k + 1) d).key (get_or terms k d).key (all (k + 1) d lt)
      (all k d (omega (arith, lt))))) ∙ up k d low lt

-- ---- the entries

module _ (paths : List (List ℕ)) where
  see_paths : (terms : List TermPart) (ordered : List Hit)
      → path_entries_of paths terms ordered ≡ map (λ (e : List ℕ × List Posting). (term_on paths e.0, e.1))
      (entries_of terms ordered)
  see_paths [] ordered = refl
  see_paths (t ∷ ts) ordered = ap (λ l. path_entry_of paths ordered t ∷ l) (see_paths ts ordered)

  numbered_on : (first : ℕ) (keys : List (List ℕ)) (hits : List NumberedHit)
      → map (λ (e : List ℕ × List Posting). (term_on paths e.0, e.1)) (numbered_from first keys hits)
      ≡ numbered_from first (map (term_on paths) keys) hits
  numbered_on first [] hits = refl
  numbered_on first (k ∷ ks) hits = ap (λ (l : TermEntries). (term_on paths k, grouped (hits_of first hits)) ∷ l)
      (numbered_on (first + 1) ks hits)

  cut_on_paths : (start : ℕ) (keys : List (List ℕ)) (ends : List ℕ) → AllByRecursion (IsPathKey (length paths)) keys
      → AllByRecursion (IsOnPath (length paths)) (cut_from start keys ends)
  cut_on_paths start [] ends all = tt
  cut_on_paths start (k ∷ ks) [] all = tt
  cut_on_paths start (k ∷ ks) (end ∷ ends) all = (all.0, cut_on_paths end ks ends all.1)

module _ (paths : List (List ℕ)) (plain : HaveNoZero paths) (distinct : IsDistinct bytes_eq paths) (ranks : List ℕ)
    (are : AreRanks paths ranks) (keys : List (List ℕ)) (hits : List NumberedHit)
    (kept : AllByRecursion (IsPathKey (length paths)) keys) (terms sorted : List TermPart) (ordered : List Hit)
    (cut : AreCut keys hits terms ordered) (permuted : IsPermutation terms sorted)
    (up : Up (λ (t : TermPart). ranked ranks t.key) sorted) where
  numbered : path_entries_of paths terms ordered ≡ numbered_from 0 (map (term_on paths) keys) hits
  numbered = see_paths paths terms ordered
      ∙ ap (map (λ (e : List ℕ × List Posting). (term_on paths e.0, e.1)))
      (entries_cut (length keys) hits ordered cut.ends cut.together keys refl terms cut.cut)
      ∙ numbered_on paths 0 keys hits

  apart : IsDistinct bytes_eq (keys_of (map (path_entry_of paths ordered) terms))
  apart = subst (IsDistinct bytes_eq) (sym (ap keys_of numbered ∙ keys_numbered 0 (map (term_on paths) keys) hits))
      (distinct-kept paths plain distinct keys kept cut.distinct)

  on_path : All (IsOnPath (length paths)) sorted
  on_path = All-permutation (IsOnPath (length paths)) terms sorted permuted (subst (All (IsOnPath (length paths)))
      (sym cut.cut) (All-from_recursion (IsOnPath (length paths)) _ (cut_on_paths paths 0 keys cut.ends kept)))

  up_terms : Up (λ (t : TermPart). term_on paths t.key) sorted
  up_terms = up_on_paths paths ranks plain are sorted on_path up

  pub path_terms_whole : (is_sorted (slice_cmp nat_cmp) (path_entries_of paths sorted ordered) ≡ true)
      × All (IsWithin (length ordered)) sorted × All (IsOnPath (length paths)) sorted
  path_terms_whole =
      let within = within_cut (length keys) hits ordered cut.ends cut.together keys refl terms cut.cut in
      let order = is_sorted-seen (path_entry_of paths ordered) terms sorted permuted up_terms apart in
      (order, All-permutation (IsWithin (length ordered)) terms sorted permuted within, on_path)

  pub path_terms_entries : (index : TermsOnPaths)
      → record { paths = paths; terms = numbered_terms (map (term_on paths) keys) hits } ≡ index
      → path_entries_of paths sorted ordered ≡ entries index.terms
  path_terms_entries index seen =
      sym (entries-seen (path_entry_of paths ordered) terms sorted permuted up_terms apart)
      ∙ ap (λ (es : TermEntries). entries (from_entries {R = slice_cmp nat_cmp} es)) numbered
      ∙ ap (λ (x : TermsOnPaths). entries x.terms) seen

-- ---- a term that is asked for

-- the path of a term at a place
pub path_of_place : (count : ℕ) (terms : List TermPart) (i : ℕ) (x : TermPart) (slice : List ℕ) (number : ℕ)
    → All (IsOnPath count) terms → i < length terms → x ≡ get_or terms i x → slice ≡ x.key → number ≡ key_path slice
    → number < count
path_of_place count terms i x slice number all lt is same known =
    let on : IsPathKey count x.key = subst (λ (t : TermPart). IsPathKey count t.key) (sym is) (all i x lt) in
    subst (λ n. n < count) (sym (known ∙ ap key_path same)) (path-within count x.key on)

-- what is put together is the term
pub copied : (paths : List (List ℕ)) (key slice path copy rest first second third new : List ℕ) (number : ℕ)
    → number < length paths → number ≡ key_path slice → slice ≡ key → slice_get paths number ≡ Some path → copy ≡ path
    → first ≡ [] → second ≡ first ++ copy → third ≡ second ++ 0 ∷ [] → rest ≡ drop 4 slice → new ≡ third ++ rest
    → new ≡ term_on paths key
copied paths key slice path copy rest first second third new number within known same at is none one two following all =
    let path_is : path ≡ get_or paths (key_path key) [] = same_Some path (get_or paths number [])
    (sym at ∙ slice_get-get_or paths number [] within) ∙ ap (λ n. get_or paths n []) (known ∙ ap key_path same) in
    let start : second ≡ get_or paths (key_path key) [] = one ∙ (λ i. none i ++ copy) ∙ is ∙ path_is in
    let end : rest ≡ drop 4 key = following ∙ ap (drop 4) same in
    all ∙ (λ i. two i ++ end i) ∙ (λ i. (start i ++ 0 ∷ []) ++ drop 4 key)
    ∙ append_assoc (get_or paths (key_path key) []) (0 ∷ []) (drop 4 key)

pub copied_if_ok : {X E : Type 0} (r : Result X E) (bytes : List (List ℕ)) (i : ℕ) (term new all before : List ℕ)
    → new ≡ cond (is_ok r) all before → (new ≡ all → new ≡ term) → slice_get bytes i ≡ Some term
    → OnOk r (slice_get bytes i ≡ Some new)
copied_if_ok (Ok x) bytes i term new all before is same at = at ∙ ap Some (sym (same is))
copied_if_ok (Err e) bytes i term new all before is same at = tt
