-- What holds of all batches where none is refused: their documents are taken, and a segment can hold those of each.
use Rattle.std.proofs.Common.{◌≡◌, ◌∙◌, ℕ, ◌-◌, Bool, true, List, [], ◌∷◌, ◌++◌, map, length, take, drop, None, Option, refl, sym, ap, subst}
use Rattle.std.specs.Prelude.{◌&&◌, is_none, is_some}
use Rattle.std.specs.List.{AllByRecursion, enumerate_from, list_all, take-map, drop-map}
use Rattle.std.specs.Option.{option_or}
use Rattle.std.proofs.lemmas.List.{map-append, take-append-drop}
use Rattle.std.proofs.lemmas.Bool.{and_parts}
use Rattle.seg_common.proofs.Lists.{unnumbered}
use Rattle.seg_values.specs.declared.error.ArgumentCause.TheVariants.{Numbers}
use Rattle.seg_values.specs.declared.error.TantivyError.{TantivyError}
use Rattle.seg_values.specs.declared.error.TantivyError.TheVariants.{InvalidArgument}
use Rattle.seg_model.specs.TextDocuments.{is_taken}
use Rattle.seg_model.specs.DocumentCheck.{Cause, at_place, document_refusal, first_of}
use Rattle.seg_model.specs.Columns.{columns}
use Rattle.seg_model.specs.Fields.{Schema, Analyzer}
use Rattle.seg_model.specs.Operations.{Operation, add, delete, delete_all, additions, batches_from}
use Rattle.seg_model.specs.Refusals.{added_by, batch_refusal, count_refusal, cut_from, numbers_refusal, operation_refusal}
use Rattle.seg_model.specs.ValidInputs.{FitsSegment}
use Rattle.seg_model.proofs.Exports.{Fits, none_count, none_map, or_both, unless_true}
use Rattle.seg_batches.specs.BatchWriteSteps.{batch_cause}

-- ---- documents

pub additions-append : (xs ys : List Operation) → additions (xs ++ ys) ≡ additions xs ++ additions ys
additions-append [] ys = refl
additions-append (add document ∷ xs) ys = ap (λ l. document ∷ l) (additions-append xs ys)
additions-append (delete term ∷ xs) ys = additions-append xs ys
additions-append (delete_all terms ∷ xs) ys = additions-append xs ys

pub all_of_both : {X : Type 0} (p : X → Bool) (xs ys : List X) → list_all p xs ≡ true → list_all p ys ≡ true
    → list_all p (xs ++ ys) ≡ true
all_of_both p [] ys h k = k
all_of_both p (x ∷ xs) ys h k =
    let parts = and_parts (p x) (list_all p xs) h in
    ap (λ b. b && list_all p (xs ++ ys)) parts.0 ∙ all_of_both p xs ys parts.1 k

-- ---- where no batch is refused

module _ (schema : Schema) (analyzer : Analyzer) where
  -- operations of which none is refused add documents that are taken
  taken_of : (part : List (ℕ × Operation)) → first_of (λ p. operation_refusal schema analyzer p.0 p.1) part ≡ None
      → list_all (is_taken schema analyzer) (additions (map (λ p. p.1) part)) ≡ true
  taken_of [] h = refl
  taken_of (p ∷ part) h = by p.1 h (taken_of part)
    where
      by : (o : Operation)
          → option_or (operation_refusal schema analyzer p.0 o) (first_of (λ q. operation_refusal schema analyzer q.0 q.1) part) ≡ None
          → (first_of (λ q. operation_refusal schema analyzer q.0 q.1) part ≡ None → list_all (is_taken schema analyzer) (additions (map (λ q. q.1) part)) ≡ true)
          → list_all (is_taken schema analyzer) (additions (o ∷ map (λ q. q.1) part)) ≡ true
      by (add document) none next =
          let parts = or_both (at_place p.0 (document_refusal schema analyzer document)) (first_of (λ q. operation_refusal schema analyzer q.0 q.1) part) none in
          ap (λ (r : Option Cause). is_none r && list_all (is_taken schema analyzer) (additions (map (λ q. q.1) part))) (none_map (λ (c : Cause). c p.0) (document_refusal schema analyzer document) parts.0) ∙ next parts.1
      by (delete term) none next = next none
      by (delete_all terms) none next = next none

  -- a batch without a cause
  module _ (start : Option TantivyError) (part : List (ℕ × Operation))
      (none : batch_cause start schema analyzer part ≡ None) where
    unrefused : batch_refusal schema analyzer part ≡ None
    unrefused = (or_both start (batch_refusal schema analyzer part) none).1

    abbrev first_refused : Option TantivyError
    first_refused = first_of (λ p. operation_refusal schema analyzer p.0 p.1) part

    abbrev in_numbers : Option TantivyError
    in_numbers = numbers_refusal schema analyzer (added_by part)

    counted : (count_refusal (added_by part) ≡ None) × (option_or first_refused in_numbers ≡ None)
    counted = or_both (count_refusal (added_by part)) (option_or first_refused in_numbers) unrefused

    part_fits : FitsSegment schema analyzer (added_by part)
    part_fits = record {
      few = none_count schema analyzer (added_by part) counted.0;
      columns =
          unless_true (is_some (columns schema analyzer (added_by part))) (InvalidArgument Numbers)
          (or_both first_refused in_numbers counted.1).1;
    }

    part_taken : list_all (is_taken schema analyzer) (added_by part) ≡ true
    part_taken = taken_of part (or_both first_refused in_numbers counted.1).0

  abbrev AllNone : Option TantivyError → ℕ → List ℕ → List (ℕ × Operation) → Type 0
  AllNone start first cuts xs =
      AllByRecursion (λ cause. cause ≡ None) (map (batch_cause start schema analyzer) (cut_from first cuts xs))

  fits_from : (start : Option TantivyError) (first : ℕ) (cuts : List ℕ) (xs : List (ℕ × Operation))
      → AllNone start first cuts xs
      → AllByRecursion (Fits schema analyzer) (batches_from schema analyzer first cuts (map (λ p. p.1) xs))
  fits_from start first [] xs none = (part_fits start xs none.0, tt)
  fits_from start first (cut ∷ cuts) xs none = (
    subst (λ (os : List Operation). FitsSegment schema analyzer (additions os)) (sym (take-map (λ (p : ℕ × Operation). p.1) (cut - first) xs)) (part_fits start (take (cut - first) xs) none.0),
    subst (λ (os : List Operation). AllByRecursion (Fits schema analyzer) (batches_from schema analyzer cut cuts os)) (sym (drop-map (λ (p : ℕ × Operation). p.1) (cut - first) xs)) (fits_from start cut cuts (drop (cut - first) xs) none.1),
  )

  taken_from : (start : Option TantivyError) (first : ℕ) (cuts : List ℕ) (xs : List (ℕ × Operation))
      → AllNone start first cuts xs → list_all (is_taken schema analyzer) (additions (map (λ p. p.1) xs)) ≡ true
  taken_from start first [] xs none = part_taken start xs none.0
  taken_from start first (cut ∷ cuts) xs none =
      let front = take (cut - first) xs in
      let rest = drop (cut - first) xs in
      ap (λ (ps : List (ℕ × Operation)). list_all (is_taken schema analyzer) (additions (map (λ p. p.1) ps))) (sym (take-append-drop (cut - first) xs))
      ∙ ap (λ (os : List Operation). list_all (is_taken schema analyzer) (additions os)) (map-append (λ (p : ℕ × Operation). p.1) front rest)
      ∙ ap (list_all (is_taken schema analyzer)) (additions-append (map (λ p. p.1) front) (map (λ p. p.1) rest))
      ∙ all_of_both (is_taken schema analyzer) (added_by front) (added_by rest) (part_taken start front none.0) (taken_from start cut cuts rest none.1)

  module _ (start : Option TantivyError) (cuts : List ℕ) (operations : List Operation)
      (none : AllNone start 0 cuts (enumerate_from 0 operations)) where
    pub all_fit : AllByRecursion (Fits schema analyzer) (batches_from schema analyzer 0 cuts operations)
    all_fit =
        subst (λ (os : List Operation). AllByRecursion (Fits schema analyzer) (batches_from schema analyzer 0 cuts os)) (unnumbered 0 operations) (fits_from start 0 cuts (enumerate_from 0 operations) none)

    pub all_taken : list_all (is_taken schema analyzer) (additions operations) ≡ true
    all_taken =
        subst (λ (os : List Operation). list_all (is_taken schema analyzer) (additions os) ≡ true) (unnumbered 0 operations) (taken_from start 0 cuts (enumerate_from 0 operations) none)
