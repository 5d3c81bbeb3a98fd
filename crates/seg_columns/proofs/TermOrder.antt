-- The order of the terms of a dictionary, and a step of the search for one.
use Rattle.std.proofs.Common.{◌≡◌, ℕ, zero, suc, ◌+◌, ◌-◌, ◌<◌, ◌≤◌, List, map, sym, ap, subst, ◌∙◌, arith, inl, inr}
use Rattle.std.specs.List.{AllByRecursion, range_with_len}
use Rattle.std.specs.List.Sorted.{IsStrictlySortedBy}
use Rattle.std.specs.Ordering.{nat_cmp}
use Rattle.std.specs.Cmp.Lexicographic.{slice_cmp}
use Rattle.std.specs.declared.cmp.Ordering.TheVariants.{Less, Equal, Greater}
use Rattle.std.proofs.lemmas.Cmp.{nat_list_cmp_total, tied_itself}
use Rattle.std.proofs.lemmas.Bool.{cases_lt}
use Rattle.seg_common.proofs.Bytes.{below_is_above, above_is_below}
use Rattle.seg_columns.specs.Dictionaries.{TermsAscend, count_of, term_at, terms_of}

-- and one compares alike with itself
pub itself : (xs ys : List ℕ) → xs ≡ ys → slice_cmp nat_cmp xs ys ≡ Equal
itself xs ys same = ap (slice_cmp nat_cmp xs) (sym same) ∙ tied_itself nat_list_cmp_total xs

-- ---- a term and the one before it

pub is_next : (bytes : List ℕ) (place : ℕ) (p q : List ℕ) → 0 < place → place < count_of bytes
    → p ≡ term_at bytes (place - 1) → q ≡ term_at bytes place → TermsAscend bytes → slice_cmp nat_cmp p q ≡ Less
is_next bytes place p q some lt a b ascend =
    let e : place - 1 + 1 ≡ place = omega arith in
    let less : slice_cmp nat_cmp (term_at bytes (place - 1)) (term_at bytes place) ≡ Less =
    subst (λ (n : ℕ). slice_cmp nat_cmp (term_at bytes (place - 1)) (term_at bytes n) ≡ Less) e
    (ascend (place - 1) (omega (arith, e, lt))) in
    (λ j. slice_cmp nat_cmp (a j) (b j)) ∙ less

pub one_more : (bytes : List ℕ) (place : ℕ) (p q : List ℕ) → 0 < place
    → ((i : ℕ) → i + 1 < place → slice_cmp nat_cmp (term_at bytes i) (term_at bytes (i + 1)) ≡ Less)
    → p ≡ term_at bytes (place - 1) → q ≡ term_at bytes place → slice_cmp nat_cmp p q ≡ Less
    → (i : ℕ) → i + 1 < place + 1 → slice_cmp nat_cmp (term_at bytes i) (term_at bytes (i + 1)) ≡ Less
one_more bytes place p q some before a b less i lt =
    elim (cases_lt (i + 1) place) [
      | inl earlier ↦ before i earlier
      | inr le ↦
          let e : i + 1 ≡ place = omega arith in
          let f : i ≡ place - 1 = omega arith in
          (λ j. slice_cmp nat_cmp (term_at bytes (f j)) (term_at bytes (e j)))
          ∙ sym (λ j. slice_cmp nat_cmp (a j) (b j)) ∙ less
    ]

-- ---- terms that ascend

module _ (bytes : List ℕ) (ascend : TermsAscend bytes) where
  rises : (i k : ℕ) → i + k + 1 < count_of bytes
      → slice_cmp nat_cmp (term_at bytes i) (term_at bytes (i + k + 1)) ≡ Less
  rises i zero h = let e : i + 0 + 1 ≡ i + 1 = omega arith in rw e (ascend i (omega arith))
  rises i (suc k) h =
      let e : i + suc k + 1 ≡ i + k + 1 + 1 = omega arith in
      rw e (nat_list_cmp_total.trans (term_at bytes i) (term_at bytes (i + k + 1)) (term_at bytes (i + k + 1 + 1))
      (rises i k (omega arith)) (ascend (i + k + 1) (omega arith)))

  rising : (i j : ℕ) → i < j → j < count_of bytes → slice_cmp nat_cmp (term_at bytes i) (term_at bytes j) ≡ Less
  rising i j lt h =
      let e : i + (j - (i + 1)) + 1 ≡ j = omega arith in
      subst (λ (n : ℕ). slice_cmp nat_cmp (term_at bytes i) (term_at bytes n) ≡ Less) e
      (rises i (j - (i + 1)) (omega arith))

  pub below_middle : (m k : ℕ) (term : List ℕ) → m < count_of bytes → slice_cmp nat_cmp (term_at bytes m) term ≡ Less
      → k < m + 1 → slice_cmp nat_cmp (term_at bytes k) term ≡ Less
  below_middle m k term h less lt =
      elim (cases_lt k m) [
        | inl below ↦ nat_list_cmp_total.trans (term_at bytes k) (term_at bytes m) term (rising k m below h) less
        | inr le ↦ let e : m ≡ k = omega arith in subst
            (λ (n : ℕ). slice_cmp nat_cmp (term_at bytes n) term ≡ Less) e less
      ]

  pub above_middle : (m k : ℕ) (term : List ℕ) → slice_cmp nat_cmp (term_at bytes m) term ≡ Greater → m ≤ k
      → k < count_of bytes → slice_cmp nat_cmp (term_at bytes k) term ≡ Greater
  above_middle m k term greater le h =
      elim (cases_lt m k) [
        | inl above ↦ below_is_above term (term_at bytes k)
            (nat_list_cmp_total.trans term (term_at bytes m) (term_at bytes k)
            (above_is_below (term_at bytes m) term greater) (rising m k above h))
        | inr past ↦ let e : m ≡ k = omega arith in
            subst (λ (n : ℕ). slice_cmp nat_cmp (term_at bytes n) term ≡ Greater) e greater
      ]

  above : (i from n : ℕ) → i < from → from + n ≤ count_of bytes
      → AllByRecursion (λ term. slice_cmp nat_cmp (term_at bytes i) term ≡ Less)
      (map (term_at bytes) (range_with_len from n))
  above i from zero lt le = tt
  above i from (suc n) lt le =
      (rising i from lt (omega (arith, le)), above i (from + 1) n (omega (arith, lt)) (omega (arith, le)))

  sorted_from : (from n : ℕ) → from + n ≤ count_of bytes
      → IsStrictlySortedBy (slice_cmp nat_cmp) (map (term_at bytes) (range_with_len from n))
  unfolding IsStrictlySortedBy
  sorted_from from zero le = tt
  sorted_from from (suc n) le =
      (above from (from + 1) n (omega arith) (omega (arith, le)), sorted_from (from + 1) n (omega (arith, le)))

  pub terms_sorted : IsStrictlySortedBy (slice_cmp nat_cmp) (terms_of bytes)
  unfolding terms_of
  terms_sorted = sorted_from 0 (count_of bytes) (omega arith)
