-- The spaces of the paths and types of a JSON field: what they have together is what all its terms have.
use Rattle.std.proofs.Common.{◌≡◌, ℕ, ◌-◌, Bool, true, false, cond, List, [], ◌∷◌, length, map, refl, sym, ap, ◌∙◌, arith}
use Rattle.std.specs.Prelude.{◌||◌}
use Rattle.std.specs.List.{AllByRecursion, filter, list_any, sum_by}
use Rattle.std.specs.List.Sorted.{IsStrictlySortedBy}
use Rattle.std.specs.Ordering.{is_eq, nat_cmp}
use Rattle.std.specs.Cmp.Lexicographic.{slice_cmp}
use Rattle.std.specs.Str.{bytes_eq}
use Rattle.std.specs.declared.cmp.Ordering.TheVariants.{Less}
use Rattle.std.proofs.lemmas.Bool.{false≢true}
use Rattle.std.proofs.lemmas.List.Sums.{sum_by-cons}
use Rattle.std.proofs.lemmas.Map.Text.{is_eq-slice_cmp}
use Rattle.std.proofs.lemmas.Slice.Eq.{bytes_eq-Decides}
use Rattle.seg_termdict.specs.Dictionary.{Term}
use Rattle.seg_postings.specs.JsonSpaces.{AreSpaces, IsSpaceAmong, beginning, begins_with, path_and_type}
use Rattle.seg_postings.specs.declared.field_space.InvertedIndexFieldSpace.{InvertedIndexFieldSpace}
use Rattle.seg_field_metadata.proofs.ItemGroups.{group, in_none, in_one_each, share_of}

abbrev among : InvertedIndexFieldSpace → Term → Bool
among s t = begins_with (beginning s) t

-- a term that begins in one way begins as none of the spaces after it
no_other : (t : Term) (head : List ℕ) → bytes_eq (path_and_type t.0) head ≡ true → (ss : List InvertedIndexFieldSpace)
    → AllByRecursion (λ other. slice_cmp nat_cmp head other ≡ Less) (map beginning ss) → AllByRecursion (λ s. among s t ≡ false) ss
no_other t head is [] above = tt
no_other t head is (s ∷ ss) above = (
  ap (λ (h : List ℕ). bytes_eq h (beginning s)) ((bytes_eq-Decides (path_and_type t.0) head).0 is)
      ∙ sym (is_eq-slice_cmp head (beginning s)) ∙ ap is_eq above.0,
  no_other t head is ss above.1,
)

module _ (f : Term → ℕ) where
  in_one : (t : Term) (ss : List InvertedIndexFieldSpace) → IsStrictlySortedBy (slice_cmp nat_cmp) (map beginning ss)
      → list_any (λ s. among s t) ss ≡ true → sum_by (share_of among f t) ss ≡ f t
  unfolding IsStrictlySortedBy
  in_one t [] sorted there = absurd (false≢true there)
  in_one t (s ∷ ss) sorted there = by (among s t) refl there (in_one t ss sorted.1)
    where
      by : (b : Bool) → among s t ≡ b → (b || list_any (λ x. among x t) ss) ≡ true
          → (list_any (λ x. among x t) ss ≡ true → sum_by (share_of among f t) ss ≡ f t) → sum_by (share_of among f t) (s ∷ ss) ≡ f t
      by true is there later =
          omega (
            arith,
            sum_by-cons (share_of among f t) s ss,
            ap (λ b. cond b (f t) 0) is,
            in_none among f t ss (no_other t (beginning s) is ss sorted.0),
          )
      by false is there later = omega (arith, sum_by-cons (share_of among f t) s ss, ap (λ b. cond b (f t) 0) is, later there)

  each_in_one : (ts : List Term) (ss : List InvertedIndexFieldSpace) → IsStrictlySortedBy (slice_cmp nat_cmp) (map beginning ss)
      → AllByRecursion (λ t. list_any (λ s. begins_with (beginning s) t) ss ≡ true) ts → AllByRecursion (λ t. sum_by (share_of among f t) ss ≡ f t) ts
  each_in_one [] ss sorted all = tt
  each_in_one (t ∷ ts) ss sorted all = (in_one t ss sorted all.0, each_in_one ts ss sorted all.1)

  module _ (terms : List Term) (size : InvertedIndexFieldSpace → ℕ)
      (is_size : (s : InvertedIndexFieldSpace) → IsSpaceAmong terms s → size s ≡ sum_by f (filter (begins_with (beginning s)) terms)) where
    as_groups : (ss : List InvertedIndexFieldSpace) → AllByRecursion (IsSpaceAmong terms) ss → sum_by size ss ≡ sum_by (group among f terms) ss
    as_groups [] each = refl
    as_groups (s ∷ ss) each =
        omega (arith, sum_by-cons size s ss, sum_by-cons (group among f terms) s ss, is_size s each.0, as_groups ss each.1)

    -- what each space has of its terms
    pub spaces_together : (spaces : List InvertedIndexFieldSpace) → AreSpaces terms spaces → sum_by size spaces ≡ sum_by f terms
    spaces_together spaces are =
        as_groups spaces are.each ∙ in_one_each among f terms spaces (each_in_one terms spaces are.ascend are.all)

ones : {X : Type 0} (xs : List X) → sum_by (λ x. 1) xs ≡ length xs
ones [] = refl
ones (x ∷ xs) = omega (arith, sum_by-cons (λ y. 1) x xs, ones xs)

module _ (terms : List Term) (spaces : List InvertedIndexFieldSpace) (are : AreSpaces terms spaces) where
  pub postings_of_spaces : sum_by (λ s. s.postings_size.0) spaces ≡ sum_by (λ (t : Term). t.1.postings_end - t.1.postings_start) terms
  postings_of_spaces =
      spaces_together (λ (t : Term). t.1.postings_end - t.1.postings_start) terms (λ s. s.postings_size.0) (λ s is. is.postings) spaces are

  pub positions_of_spaces : sum_by (λ s. s.positions_size.0) spaces ≡ sum_by (λ (t : Term). t.1.positions_end - t.1.positions_start) terms
  positions_of_spaces =
      spaces_together (λ (t : Term). t.1.positions_end - t.1.positions_start) terms (λ s. s.positions_size.0) (λ s is. is.positions) spaces are

  pub terms_of_spaces : sum_by (λ s. s.num_terms) spaces ≡ length terms
  terms_of_spaces =
      spaces_together (λ t. 1) terms (λ s. s.num_terms)
      (λ s is. is.number ∙ sym (ones (filter (begins_with (beginning s)) terms))) spaces are
      ∙ ones terms

-- without terms there are no spaces
pub no_space : (spaces : List InvertedIndexFieldSpace) → AreSpaces [] spaces → spaces ≡ []
no_space [] are = refl
no_space (s ∷ ss) are = absurd (let here = are.each.0.number in let some = are.each.0.occur in omega (arith, here, some))
