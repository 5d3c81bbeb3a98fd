-- The first error of an input: of its shape, of a writer that isn't made, or of its deletes.
use Rattle.std.proofs.Common.{◌≡◌, Some, None, Option, inl, inr, ap, ◌∙◌}
use Rattle.std.specs.Prelude.{◌⊎◌}
use Rattle.std.specs.Option.{option_or}
use Rattle.seg_values.specs.declared.error.ArgumentCause.TheVariants as argument
use Rattle.seg_values.specs.declared.error.TantivyError.{TantivyError}
use Rattle.seg_values.specs.declared.error.TantivyError.TheVariants.{InvalidArgument, OutOfMemory}
use Rattle.seg_model.specs.DocumentCheck.{unless}
use Rattle.seg_model.specs.Fields.{Analyzer}
use Rattle.seg_model.specs.Input.{Input, input_batches}
use Rattle.seg_model.specs.ValidInputs.{Known, shape_refusal, schema_refusal, delete_refusal, input_refusal, cuts_fit, batches_fit, filters_fit}
use Rattle.seg_model.proofs.Exports.{or_both, unless_true}
use Rattle.seg_check.specs.AdmittedInputs.{Fits}

module _ (known : Known) (analyzer : Analyzer) (input : Input) where
  abbrev pub shape : Option TantivyError
  shape = shape_refusal input.operations input.cuts input.filters (input_batches analyzer input) input.ids

  abbrev pub starting : Option TantivyError
  starting = schema_refusal known input.schema input.settings

  abbrev pub deleting : Option TantivyError
  deleting = delete_refusal input.schema input.operations

  pub by_shape : (e : TantivyError) → (shape ≡ Some e) ⊎ (e ≡ OutOfMemory)
      → (input_refusal known analyzer input ≡ Some e) ⊎ (e ≡ OutOfMemory)
  by_shape e (inl is) = inl (ap (λ o. option_or o (option_or starting deleting)) is)
  by_shape e (inr is) = inr is

  module _ (shaped : shape ≡ None) where
    pub by_start : (e : TantivyError) → starting ≡ Some e → input_refusal known analyzer input ≡ Some e
    by_start e is = ap (λ o. option_or o (option_or starting deleting)) shaped ∙ ap (λ o. option_or o deleting) is

    pub by_deletes : starting ≡ None → input_refusal known analyzer input ≡ deleting
    by_deletes started =
        ap (λ o. option_or o (option_or starting deleting)) shaped ∙ ap (λ o. option_or o deleting) started

    -- what holds where the shape will do
    pub all_fit : Fits analyzer input
    all_fit =
        let cuts = or_both (unless (cuts_fit input.operations input.cuts) (InvalidArgument argument.Cuts)) _ shaped in
        let batches = or_both (unless (batches_fit input.cuts) (InvalidArgument argument.Batches)) _ cuts.1 in
        let filters = or_both (unless (filters_fit input.filters (input_batches analyzer input)) (InvalidArgument argument.Filters)) _ batches.1 in
        record {
          cuts = unless_true _ (InvalidArgument argument.Cuts) cuts.0;
          batches = unless_true _ (InvalidArgument argument.Batches) batches.0;
          filters = unless_true _ (InvalidArgument argument.Filters) filters.0;
          ids = unless_true _ (InvalidArgument argument.SegmentIds) filters.1;
        }
