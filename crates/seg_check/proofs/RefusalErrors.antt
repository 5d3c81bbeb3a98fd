-- Each refusal is an error that tells refusals.
use Rattle.std.proofs.Common.{◌≡◌, ℕ, List, Some, None, Option, option_map, length, subst}
use Rattle.std.specs.Prelude.{IfSome, is_some, not, nat_le, nat_lt, ◌^◌}
use Rattle.std.specs.List.{list_any}
use Rattle.seg_values.specs.declared.error.ArgumentCause.TheVariants as argument
use Rattle.seg_values.specs.declared.error.SchemaCause.TheVariants as schema_cause
use Rattle.seg_values.specs.declared.error.TantivyError.{TantivyError}
use Rattle.seg_values.specs.declared.error.TantivyError.TheVariants.{SchemaError, InvalidArgument}
use Rattle.seg_model.specs.DocumentCheck.{Cause, at_place, first_of, unless, document_refusal}
use Rattle.seg_model.specs.Columns.{columns}
use Rattle.seg_model.specs.Fields.{Schema, Analyzer}
use Rattle.seg_model.specs.Input.{Input, Settings, input_batches}
use Rattle.seg_model.specs.Operations.{Operation, add, delete, delete_all}
use Rattle.seg_model.specs.Refusals.{operation_refusal, count_refusal, numbers_refusal, added_by, batch_refusal, IsRefusal}
use Rattle.seg_model.specs.ValidInputs.{Known, cuts_fit, batches_fit, filters_fit, ids_fit, names_fit, settings_fit, unknown_tokenizer_of, has_unknown_fast_tokenizer, shape_refusal, schema_refusal}
use Rattle.seg_meta.specs.MetaMeaning.{settings_of}
use Rattle.seg_meta.specs.declared.index_settings.IndexSettings.{IndexSettings}
use Rattle.seg_check.proofs.RefusalCauses.{EachHas, cause-has, first_each, or_each, unless_each}
use Rattle.seg_check.specs.WriterStart.{least_budget, start_refusal}

module _ {X : Type 0} (P : X → Type 0) where
  pub map_each : {Y : Type 0} (f : Y → X) → ((y : Y) → P (f y)) → (o : Option Y) → IfSome (option_map f o) P
  map_each f h None = tt
  map_each f h (Some y) = h y

-- ---- a document

abbrev IsCause : Cause → Type 0
IsCause cause = (at : ℕ) → IsRefusal (cause at)

causes : EachHas IsCause
causes = record { unknown = λ at. tt; wrong = λ field at. tt; leaf = λ at. tt; key = λ at. tt; falls = λ at. tt; past = λ at. tt }

module _ (schema : Schema) (analyzer : Analyzer) where
  -- ---- a batch

  place_each : (at : ℕ) (cause : Option Cause) → IfSome cause IsCause → IfSome (at_place at cause) IsRefusal
  place_each at None h = tt
  place_each at (Some c) h = h at

  operation_each : (at : ℕ) (operation : Operation) → IfSome (operation_refusal schema analyzer at operation) IsRefusal
  operation_each at (add document) = place_each at (document_refusal schema analyzer document) (cause-has IsCause causes schema analyzer document)
  operation_each at (delete term) = tt
  operation_each at (delete_all terms) = tt

  batch_each : (batch : List (ℕ × Operation)) → IfSome (batch_refusal schema analyzer batch) IsRefusal
  batch_each batch =
      or_each IsRefusal (count_refusal (added_by batch)) _ (unless_each IsRefusal (nat_lt (length (added_by batch)) (2 ^ 31)) (InvalidArgument argument.Documents) tt)
      (or_each IsRefusal (first_of (λ p. operation_refusal schema analyzer p.0 p.1) batch) (numbers_refusal schema analyzer (added_by batch)) (first_each IsRefusal (λ (p : ℕ × Operation). operation_refusal schema analyzer p.0 p.1) (λ p. operation_each p.0 p.1) batch)
      (unless_each IsRefusal (is_some (columns schema analyzer (added_by batch))) (InvalidArgument argument.Numbers) tt))

  pub batch_is_refusal : (batch : List (ℕ × Operation)) (e : TantivyError) → batch_refusal schema analyzer batch ≡ Some e → IsRefusal e
  batch_is_refusal batch e is = subst (λ o. IfSome o IsRefusal) is (batch_each batch)

-- ---- an input

pub shape_each : (analyzer : Analyzer) (input : Input) → IfSome (shape_refusal input.operations input.cuts input.filters (input_batches analyzer input) input.ids) IsRefusal
shape_each analyzer input =
    or_each IsRefusal (unless (cuts_fit input.operations input.cuts) (InvalidArgument argument.Cuts)) _ (unless_each IsRefusal (cuts_fit input.operations input.cuts) (InvalidArgument argument.Cuts) tt)
    (or_each IsRefusal (unless (batches_fit input.cuts) (InvalidArgument argument.Batches)) _ (unless_each IsRefusal (batches_fit input.cuts) (InvalidArgument argument.Batches) tt)
    (or_each IsRefusal (unless (filters_fit input.filters (input_batches analyzer input)) (InvalidArgument argument.Filters)) _ (unless_each IsRefusal (filters_fit input.filters (input_batches analyzer input)) (InvalidArgument argument.Filters) tt)
    (unless_each IsRefusal (ids_fit input.cuts input.ids) (InvalidArgument argument.SegmentIds) tt)))

pub schema_each : (known : Known) (schema : Schema) (settings : Settings) → IfSome (schema_refusal known schema settings) IsRefusal
schema_each known schema settings =
    or_each IsRefusal (unless (names_fit schema) (InvalidArgument argument.FieldName)) _ (unless_each IsRefusal (names_fit schema) (InvalidArgument argument.FieldName) tt)
    (or_each IsRefusal (unless (settings_fit settings) (InvalidArgument argument.Settings)) _ (unless_each IsRefusal (settings_fit settings) (InvalidArgument argument.Settings) tt)
    (or_each IsRefusal (option_map (λ field. SchemaError (schema_cause.Tokenizer field)) (unknown_tokenizer_of known schema)) _ (map_each IsRefusal (λ field. SchemaError (schema_cause.Tokenizer field)) (λ field. tt) (unknown_tokenizer_of known schema))
    (unless_each IsRefusal (not (list_any (has_unknown_fast_tokenizer known) schema)) (InvalidArgument argument.FastTokenizer) tt)))

pub start_is_refusal : (known : Known) (budget : ℕ) (schema : Schema) (settings : IndexSettings) (e : TantivyError) → start_refusal known budget schema settings ≡ Some e → IsRefusal e
start_is_refusal known budget schema settings e is =
    subst (λ o. IfSome o IsRefusal) is
    (or_each IsRefusal (unless (nat_le least_budget budget) (InvalidArgument argument.Budget)) (schema_refusal known schema (settings_of settings)) (unless_each IsRefusal (nat_le least_budget budget) (InvalidArgument argument.Budget) tt)
    (schema_each known schema (settings_of settings)))
