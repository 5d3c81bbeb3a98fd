-- The first error of an input is one that tells a refusal.
use Rattle.std.proofs.Common.{◌≡◌, ℕ, List, Some, None, Option, option_map, length, subst}
use Rattle.std.specs.Prelude.{IfSome, is_some, not, nat_le, nat_lt, ◌^◌}
use Rattle.std.specs.List.{list_any}
use Rattle.seg_values.specs.declared.error.ArgumentCause.TheVariants as argument
use Rattle.seg_values.specs.declared.error.SchemaCause.TheVariants as schema_cause
use Rattle.seg_values.specs.declared.error.TantivyError.{TantivyError}
use Rattle.seg_values.specs.declared.error.TantivyError.TheVariants.{SchemaError, InvalidArgument}
use Rattle.seg_model.specs.DocumentCheck.{Cause, at_place, first_of, unless, document_refusal}
use Rattle.seg_model.specs.Columns.{columns}
use Rattle.seg_model.specs.Fields.{Schema, Analyzer}
use Rattle.seg_model.specs.Input.{Input, Settings, input_batches}
use Rattle.seg_model.specs.Operations.{Operation, add, delete, delete_all}
use Rattle.seg_model.specs.Refusals.{operation_refusal, count_refusal, numbers_refusal, added_by, batch_refusal, IsRefusal}
use Rattle.seg_model.specs.ValidInputs.{Known, cuts_fit, batches_fit, filters_fit, ids_fit, names_fit, settings_fit, unknown_tokenizer_of, has_unknown_fast_tokenizer, unindexed_delete_of, shape_refusal, schema_refusal, delete_refusal, input_refusal}
use Rattle.seg_check.proofs.RefusalCauses.{EachHas, cause-has, first_each, or_each}
use Rattle.seg_check.proofs.RefusalErrors.{map_each, schema_each, shape_each}

first_each_of : (known : Known) (analyzer : Analyzer) (input : Input) → IfSome (input_refusal known analyzer input) IsRefusal
first_each_of known analyzer input =
    or_each IsRefusal (shape_refusal input.operations input.cuts input.filters (input_batches analyzer input) input.ids) _ (shape_each analyzer input)
    (or_each IsRefusal (schema_refusal known input.schema input.settings) (delete_refusal input.schema input.operations) (schema_each known input.schema input.settings)
    (map_each IsRefusal (λ at. SchemaError (schema_cause.DeleteField at)) (λ at. tt) (unindexed_delete_of input.schema input.operations)))

pub first_is_refusal : (known : Known) (analyzer : Analyzer) (input : Input) (e : TantivyError) → input_refusal known analyzer input ≡ Some e → IsRefusal e
first_is_refusal known analyzer input e is = subst (λ o. IfSome o IsRefusal) is (first_each_of known analyzer input)
