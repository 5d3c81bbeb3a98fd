-- Distinct terms put in byte order.
use Rattle.std.proofs.Common.{◌≡◌, ◌≢◌, ℕ, zero, suc, ◌+◌, ◌<◌, false, List, [], length, get_or, Less, sym, subst, ◌∙◌, arith, inl, inr}
use Rattle.std.specs.Prelude.{All, nat_eq}
use Rattle.std.specs.List.{AllByRecursion, IsDistinct, range_with_len}
use Rattle.std.specs.List.Sorted.{IsPermutation, IsSortedBy}
use Rattle.std.specs.Ordering.{nat_cmp, is_lt}
use Rattle.std.specs.Cmp.Lexicographic.{slice_cmp, nat_list_cmp_total}
use Rattle.std.specs.Str.{bytes_eq}
use Rattle.std.proofs.lemmas.Bool.{cases_lt, false≢true, ne_eqb}
use Rattle.std.proofs.lemmas.Bool.Decides.{Decides-eqb}
use Rattle.std.proofs.lemmas.List.{get_or-map, length-map}
use Rattle.std.proofs.lemmas.List.FromFn.{get_or-range_with_len, length-range_with_len}
use Rattle.std.proofs.lemmas.List.Sorted.{All-permutation, length_permutation}
use Rattle.std.proofs.lemmas.Map.Keys.{IsDistinct-IsPermutation, apart_from_distinct, sorted_from_all_adjacent}
use Rattle.seg_common.proofs.Bytes.{bytes_eq-sym, in_order}
use Rattle.seg_common.proofs.Numbers.{nat_eq-sym}
use Rattle.seg_column_format.specs.NumberedTerms.{AscendBy, terms_at}

-- ---- numbers that rise are distinct

apart_above : (low n count : ℕ) → n < low → AllByRecursion (λ m. nat_eq n m ≡ false) (range_with_len low count)
apart_above low n zero lt = tt
apart_above low n (suc count) lt =
    (ne_eqb n low (λ e. omega (arith, e, lt)), apart_above (low + 1) n count (omega (arith, lt)))

pub range_distinct : (low count : ℕ) → IsDistinct nat_eq (range_with_len low count)
unfolding IsDistinct
range_distinct low zero = tt
range_distinct low (suc count) = (apart_above (low + 1) low count (omega arith), range_distinct (low + 1) count)

pub range_below : (count : ℕ) → All (λ n. n < count) (range_with_len 0 count)
range_below count k d lt =
    let within : k < count = omega (arith, lt, length-range_with_len 0 count) in
    omega (arith, within, get_or-range_with_len 0 count k d within)

-- ---- order

abbrev pub Up : List (List ℕ) → List ℕ → Type 0
Up terms numbers = IsSortedBy (λ x y. is_lt (slice_cmp nat_cmp (get_or terms x []) (get_or terms y []))) numbers

module _ (terms : List (List ℕ)) (distinct : IsDistinct bytes_eq terms) where
  -- terms with different numbers differ
  terms_apart : (m n : ℕ) → m < length terms → n < length terms → m ≢ n
      → bytes_eq (get_or terms m []) (get_or terms n []) ≡ false
  terms_apart m n lt below other =
      elim (cases_lt m n) [
        | inl first ↦ apart_from_distinct bytes_eq terms m n [] distinct first below
        | inr le ↦
            let second : n < m = grind (arith, le, other) in
            bytes_eq-sym (get_or terms m []) (get_or terms n [])
            ∙ apart_from_distinct bytes_eq terms n m [] distinct second lt
      ]

  module _ (numbers : List ℕ) (moved : IsPermutation (range_with_len 0 (length terms)) numbers)
      (up : Up terms numbers) where
    many : length numbers ≡ length terms
    many = length_permutation (range_with_len 0 (length terms)) numbers moved ∙ length-range_with_len 0 (length terms)

    pub below : All (λ n. n < length terms) numbers
    below = All-permutation (λ n. n < length terms) (range_with_len 0 (length terms)) numbers moved
        (range_below (length terms))

    pub numbers_distinct : IsDistinct nat_eq numbers
    numbers_distinct = IsDistinct-IsPermutation nat_eq nat_eq-sym (range_with_len 0 (length terms)) numbers moved
        (range_distinct 0 (length terms))

    differ : (k : ℕ) → k + 1 < length numbers → get_or numbers k 0 ≢ get_or numbers (k + 1) 0
    differ k lt e = false≢true (sym (apart_from_distinct nat_eq numbers k (k + 1) 0 numbers_distinct (omega arith) lt)
        ∙ (Decides-eqb (get_or numbers k 0) (get_or numbers (k + 1) 0)).1 e)

    term_of : (k : ℕ) → k < length numbers
        → get_or (terms_at terms numbers) k [] ≡ get_or terms (get_or numbers k 0) []
    term_of k lt = get_or-map (λ n. get_or terms n []) numbers k 0 [] lt

    next : (k : ℕ) → k + 1 < length (terms_at terms numbers)
        → slice_cmp nat_cmp (get_or (terms_at terms numbers) k []) (get_or (terms_at terms numbers) (k + 1) []) ≡ Less
    next k lt =
        let within : k + 1 < length numbers = omega (arith, lt, length-map numbers (λ n. get_or terms n [])) in
        let here : k < length numbers = omega (arith, within) in
        (λ j. slice_cmp nat_cmp (term_of k here j) (term_of (k + 1) within j))
        ∙ in_order (get_or terms (get_or numbers k 0) []) (get_or terms (get_or numbers (k + 1) 0) [])
        (up k 0 (omega arith) within)
        (terms_apart (get_or numbers k 0) (get_or numbers (k + 1) 0) (below k 0 here) (below (k + 1) 0 within)
        (differ k within))

    pub ascending : AscendBy terms numbers
    ascending = record {
      all = moved;
      ascend = sorted_from_all_adjacent nat_list_cmp_total (terms_at terms numbers) [] next;
    }

-- what holds of numbers in order
pub below_many : (terms : List (List ℕ)) (numbers : List ℕ) → AscendBy terms numbers
    → All (λ n. n < length numbers) numbers
below_many terms numbers are =
    let many : length numbers ≡ length terms =
    length_permutation (range_with_len 0 (length terms)) numbers are.all ∙ length-range_with_len 0 (length terms) in
    subst (λ (count : ℕ). All (λ n. n < count) numbers) (sym many)
    (All-permutation (λ n. n < length terms) (range_with_len 0 (length terms)) numbers are.all
    (range_below (length terms)))

pub still_distinct : (terms : List (List ℕ)) (numbers : List ℕ) → AscendBy terms numbers → IsDistinct nat_eq numbers
still_distinct terms numbers are = IsDistinct-IsPermutation nat_eq nat_eq-sym (range_with_len 0 (length terms)) numbers
    are.all (range_distinct 0 (length terms))
