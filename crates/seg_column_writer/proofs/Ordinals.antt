-- The ordinals of terms, and that each is used.
use Rattle.std.proofs.Common.{◌≡◌, ℕ, zero, suc, ◌<◌, true, false, List, [], ◌∷◌, length, get_or, Less, sym, ap, ◌∙◌, arith, inl, inr}
use Rattle.std.specs.Prelude.{nat_lt}
use Rattle.std.specs.List.{AllByRecursion, range_with_len}
use Rattle.std.specs.List.Sorted.{IsStrictlySortedBy}
use Rattle.std.specs.Ordering.{is_gt, nat_cmp, ordering_reverse}
use Rattle.std.specs.Cmp.Lexicographic.{slice_cmp, nat_list_cmp_total}
use Rattle.std.proofs.lemmas.Bool.{cases_lt}
use Rattle.std.proofs.lemmas.Bool.Decides.{nat_tests}
use Rattle.std.proofs.lemmas.Cmp.{tied_itself}
use Rattle.std.proofs.lemmas.List.{get_or-map, get_or_default, length-map}
use Rattle.std.proofs.lemmas.List.FromFn.{get_or-range_with_len, length-range_with_len}
use Rattle.std.proofs.lemmas.List.Sorted.{Contains-permutation, length_permutation}
use Rattle.seg_column_format.specs.NumberedTerms.{IsOrder, terms_at}
use Rattle.seg_column_format.proofs.SortedTerms.{below_many}

module _ (terms : List (List ℕ)) (numbers ordinals : List ℕ) (is : IsOrder terms numbers ordinals) where
  abbrev sorted : List (List ℕ)
  sorted = terms_at terms numbers

  pub many : length numbers ≡ length terms
  many =
      length_permutation (range_with_len 0 (length terms)) numbers is.ascend.all
      ∙ length-range_with_len 0 (length terms)

  -- the place of a number
  found : (i : ℕ) → i < length terms → (k : ℕ) × (k < length numbers) × (get_or numbers k 0 ≡ i)
  found i lt =
      let here : i < length (range_with_len 0 (length terms)) = omega (arith, lt, length-range_with_len 0 (length terms)) in
      let at : get_or (range_with_len 0 (length terms)) i i ≡ i =
      get_or-range_with_len 0 (length terms) i i lt ∙ omega arith in
      let there = Contains-permutation (range_with_len 0 (length terms)) numbers i is.ascend.all (i, here, at) in
      (there.0, there.1, get_or_default numbers there.0 0 i there.1 ∙ there.2)

  -- an ordinal is the place of the term
  pub ordinal_below : (i : ℕ) → i < length terms → get_or ordinals i 0 < length sorted
  ordinal_below i lt =
      let there = found i lt in
      let place : get_or ordinals i 0 ≡ there.0 =
      ap (λ (n : ℕ). get_or ordinals n 0) (sym there.2) ∙ is.ordinals_are.place there.0 there.1 in
      omega (arith, place, there.1, length-map numbers (λ n. get_or terms n []))

  pub ordinal_term : (i : ℕ) → i < length terms → get_or sorted (get_or ordinals i 0) [] ≡ get_or terms i []
  ordinal_term i lt =
      let there = found i lt in
      let place : get_or ordinals i 0 ≡ there.0 =
      ap (λ (n : ℕ). get_or ordinals n 0) (sym there.2) ∙ is.ordinals_are.place there.0 there.1 in
      ap (λ (n : ℕ). get_or sorted n []) place
      ∙ get_or-map (λ n. get_or terms n []) numbers there.0 0 [] there.1
      ∙ ap (λ (n : ℕ). get_or terms n []) there.2

  -- each place is the ordinal of a number
  pub ordinal_of_place : (k : ℕ) → k < length sorted
      → (get_or numbers k 0 < length terms) × (get_or ordinals (get_or numbers k 0) 0 ≡ k)
  ordinal_of_place k lt =
      let within : k < length numbers = omega (arith, lt, length-map numbers (λ n. get_or terms n [])) in
      let below = below_many terms numbers is.ascend k 0 within in
      (omega (arith, below, many), is.ordinals_are.place k within)

  -- ---- order

  from_sorted : (ts : List (List ℕ)) → IsStrictlySortedBy (slice_cmp nat_cmp) ts → (a b : ℕ) → a < b → b < length ts
      → slice_cmp nat_cmp (get_or ts a []) (get_or ts b []) ≡ Less
  unfolding IsStrictlySortedBy
  from_sorted [] sorted a b lt below = absurd (omega (arith, below))
  from_sorted (t ∷ ts) sorted zero zero lt below = absurd (omega (arith, lt))
  from_sorted (t ∷ ts) sorted zero (suc b) lt below = following ts b sorted.0 (omega (arith, below))
    where
      following : (us : List (List ℕ)) (b : ℕ) → AllByRecursion (λ u. slice_cmp nat_cmp t u ≡ Less) us → b < length us
          → slice_cmp nat_cmp t (get_or us b []) ≡ Less
      following [] b each lt = absurd (omega (arith, lt))
      following (u ∷ us) zero each lt = each.0
      following (u ∷ us) (suc b) each lt = following us b each.1 (omega (arith, lt))
  from_sorted (t ∷ ts) sorted (suc a) zero lt below = absurd (omega (arith, lt))
  from_sorted (t ∷ ts) sorted (suc a) (suc b) lt below =
      from_sorted ts sorted.1 a b (omega (arith, lt)) (omega (arith, below))

  -- terms rise with their ordinals
  pub terms_rising : (a b : ℕ) → a < length sorted → b < length sorted
      → is_gt (slice_cmp nat_cmp (get_or sorted a []) (get_or sorted b [])) ≡ nat_lt b a
  terms_rising a b lt below =
      elim (cases_lt a b) [
        | inl first ↦
            let no : false ≡ nat_lt b a = grind (arith, nat_tests, first) in
            ap is_gt (from_sorted sorted is.ascend.ascend a b first below) ∙ no
        | inr le ↦ elim (cases_lt b a) [
          | inl second ↦
              let yes : true ≡ nat_lt b a = grind (arith, nat_tests, second) in
              ap is_gt (nat_list_cmp_total.antisymm (get_or sorted a []) (get_or sorted b [])
              ∙ ap ordering_reverse (from_sorted sorted is.ascend.ascend b a second lt)) ∙ yes
          | inr other ↦
              let same : a ≡ b = omega (arith, le, other) in
              let no : false ≡ nat_lt b a = grind (arith, nat_tests, same) in
              ap is_gt (ap (λ (n : ℕ). slice_cmp nat_cmp (get_or sorted a []) (get_or sorted n [])) (sym same)
              ∙ tied_itself nat_list_cmp_total (get_or sorted a [])) ∙ no
        ]
      ]
