-- Why a batch is refused: found operation by operation, or by the number of its documents.
use Rattle.std.proofs.Common.{◌≡◌, ℕ, ◌+◌, ◌<◌, ◌≤◌, ◌^◌, List, length, drop, Some, None, Option, sym, ap, ◌∙◌, arith}
use Rattle.std.specs.List.{slice_get, enumerate_from}
use Rattle.std.specs.Option.{option_or}
use Rattle.std.proofs.lemmas.Bool.{le-ltb, lt-ltb}
use Rattle.seg_common.proofs.Lists.{drop-slice_get, unnumbered}
use Rattle.seg_values.specs.declared.error.ArgumentCause.TheVariants as argument
use Rattle.seg_values.specs.declared.error.TantivyError.{TantivyError}
use Rattle.seg_values.specs.declared.error.TantivyError.TheVariants.{InvalidArgument}
use Rattle.seg_model.specs.DocumentCheck.{first_of, unless}
use Rattle.seg_model.specs.Fields.{Schema, Analyzer}
use Rattle.seg_model.specs.Operations.{Operation, additions}
use Rattle.seg_model.specs.Refusals.{operation_refusal, count_refusal, numbers_refusal, added_by, batch_error}

module _ (schema : Schema) (analyzer : Analyzer) where
  -- the first operation that is refused, of which the first has this place
  abbrev pub refused_from : ℕ → List Operation → Option TantivyError
  refused_from n operations = first_of (λ p. operation_refusal schema analyzer p.0 p.1) (enumerate_from n operations)

  module _ (first : ℕ) (operations : List Operation) where
    added : added_by (enumerate_from first operations) ≡ additions operations
    added = ap additions (unnumbered first operations)

    few_counted : length (additions operations) < 2 ^ 31
        → count_refusal (added_by (enumerate_from first operations)) ≡ None
    few_counted few =
        ap count_refusal added ∙ ap (λ b. unless b (InvalidArgument argument.Documents)) (lt-ltb (length (additions operations)) (2 ^ 31) few)

    pub too_many : 2 ^ 31 ≤ length (additions operations)
        → batch_error schema analyzer first operations ≡ Some (InvalidArgument argument.Documents)
    too_many many =
        ap (λ o. option_or o (option_or (refused_from first operations) (numbers_refusal schema analyzer (added_by (enumerate_from first operations)))))
        (ap count_refusal added ∙ ap (λ b. unless b (InvalidArgument argument.Documents)) (le-ltb (length (additions operations)) (2 ^ 31) many))

    -- an operation that is refused tells why its batch is
    batch_of : (refusal : TantivyError) → length (additions operations) < 2 ^ 31
        → refused_from first operations ≡ Some refusal → batch_error schema analyzer first operations ≡ Some refusal
    batch_of refusal few found =
        ap (λ o. option_or o (option_or (refused_from first operations) (numbers_refusal schema analyzer (added_by (enumerate_from first operations))))) (few_counted few)
        ∙ ap (λ o. option_or o (numbers_refusal schema analyzer (added_by (enumerate_from first operations)))) found

    module _ (i : ℕ) (operation : Operation) (at : slice_get operations i ≡ Some operation) where
      turn : refused_from (first + i) (drop i operations) ≡ option_or (operation_refusal schema analyzer (first + i) operation) (refused_from (first + i + 1) (drop (i + 1) operations))
      turn = ap (refused_from (first + i)) (drop-slice_get operations i operation at)

      -- one that isn't leaves it to the next
      pub still_none : operation_refusal schema analyzer (first + i) operation ≡ None
          → refused_from (first + i) (drop i operations) ≡ refused_from first operations
          → refused_from (first + (i + 1)) (drop (i + 1) operations) ≡ refused_from first operations
      still_none none so_far =
          let place : first + (i + 1) ≡ first + i + 1 = omega arith in
          ap (λ n. refused_from n (drop (i + 1) operations)) place
          ∙ sym (turn ∙ ap (λ o. option_or o (refused_from (first + i + 1) (drop (i + 1) operations))) none)
          ∙ so_far

      pub refused_at : (refusal : TantivyError) → operation_refusal schema analyzer (first + i) operation ≡ Some refusal
          → length (additions operations) < 2 ^ 31
          → refused_from (first + i) (drop i operations) ≡ refused_from first operations
          → batch_error schema analyzer first operations ≡ Some refusal
      refused_at refusal found few so_far =
          batch_of refusal few (sym so_far ∙ turn ∙ ap (λ o. option_or o (refused_from (first + i + 1) (drop (i + 1) operations))) found)
