-- Which inputs an index can be built from, and why others are refused: the tests in their order.
use Rattle.std.specs.Prelude.{ℕ, ◌+◌, ◌^◌, List, [], ◌∷◌, length, position, is_some, Option, Some, None, Bool, true, false, not, ◌&&◌, ◌||◌, ◌==◌, ◌≡◌, ◌<◌, nat_eq, nat_le, nat_lt, unwrap_or}
use Rattle.std.specs.List.{list_any, list_all, slice_get, AllByRecursion}
use Rattle.std.specs.Option.{option_or, option_map}
use Rattle.seg_values.specs.declared.schema.FieldEntry.{FieldEntry}
use Rattle.seg_values.specs.Tree.{Document}
use Rattle.seg_values.specs.declared.error.ArgumentCause.TheVariants as argument
use Rattle.seg_values.specs.declared.error.SchemaCause.TheVariants as schema_cause
use Rattle.seg_values.specs.declared.error.TantivyError.{TantivyError}
use Rattle.seg_values.specs.declared.error.TantivyError.TheVariants.{SchemaError, InvalidArgument}
use Rattle.seg_model.specs.Fields.{Schema, Analyzer, is_text, is_json, is_indexed, is_field, indexing_tokenizer}
use Rattle.seg_model.specs.Operations.{TermKey, Operation, add, delete, delete_all, Batch, additions}
use Rattle.seg_model.specs.DocumentCheck.{document_refusal, unless}
use Rattle.seg_model.specs.Columns.{columns}
use Rattle.seg_model.specs.Input.{Compression, uncompressed, Settings, Filter, Input, input_batches, input_survivors}

-- the names under which an analyzer is known
abbrev pub Known : Type 0
Known = List ℕ → Bool

-- ---- the list of operations and how it is cut

-- no number is below the one before it
abbrev pub never_falls : List ℕ → Bool
never_falls [] = true
never_falls (n ∷ []) = true
never_falls (n ∷ m ∷ ns) = nat_le n m && never_falls (m ∷ ns)

-- cuts never fall, and none passes the end of the operations
abbrev pub cuts_fit : List Operation → List ℕ → Bool
cuts_fit operations cuts = never_falls cuts && list_all (λ cut. nat_le cut (length operations)) cuts

-- there are fewer than 2^32 batches
abbrev pub batches_fit : List ℕ → Bool
batches_fit cuts = nat_lt (length cuts + 1) (2 ^ 32)

-- a filter speaks of as many documents as its batch adds
abbrev pub filter_fits : Option Filter → Batch → Bool
filter_fits None batch = true
filter_fits (Some filter) batch = length filter == length batch.documents

-- there is one filter, or none, for each batch, and each fits
abbrev pub filters_fit : List (Option Filter) → List Batch → Bool
filters_fit [] [] = true
filters_fit [] (batch ∷ batches) = false
filters_fit (filter ∷ filters) [] = false
filters_fit (filter ∷ filters) (batch ∷ batches) = filter_fits filter batch && filters_fit filters batches

-- no number comes twice
abbrev pub are_distinct : List ℕ → Bool
are_distinct [] = true
are_distinct (n ∷ ns) = not (list_any (nat_eq n) ns) && are_distinct ns

-- there is one id for each batch and one more, and none twice
abbrev pub ids_fit : List ℕ → List ℕ → Bool
ids_fit cuts ids = (length ids == length cuts + 2) && are_distinct ids

-- ---- the schema and the settings

-- no field name holds U+0000 or U+0001
abbrev pub names_fit : Schema → Bool
names_fit schema = list_all (λ (e : FieldEntry). list_all (λ b. nat_lt 1 b) e.name) schema

-- the only compression that a store is written with
abbrev pub is_uncompressed : Compression → Bool
is_uncompressed uncompressed = true
is_uncompressed _ = false

-- stored documents are not compressed, and no thread of its own is asked for
abbrev pub settings_fit : Settings → Bool
settings_fit settings = is_uncompressed settings.compression && not settings.dedicated_thread

-- the first field whose indexing tokenizer is unknown; of a field without one that is `default`
abbrev pub unknown_tokenizer_of : Known → Schema → Option ℕ
unknown_tokenizer_of known schema = position (λ e. not (known (indexing_tokenizer e))) schema

-- whether a fast text or JSON field names a fast tokenizer that is unknown
abbrev pub has_unknown_fast_tokenizer : Known → FieldEntry → Bool
has_unknown_fast_tokenizer known entry =
    entry.fast && (is_text entry.kind || is_json entry.kind)
    && unwrap_or (option_map (λ name. not (known name)) entry.fast_tokenizer) false

-- ---- deletes

-- whether a term is of an indexed field of the schema
abbrev pub names_indexed : Schema → TermKey → Bool
names_indexed schema term = is_field is_indexed (slice_get schema term.field)

-- whether an operation deletes by a term of no indexed field
abbrev pub is_unindexed_delete : Schema → Operation → Bool
is_unindexed_delete schema (add document) = false
is_unindexed_delete schema (delete term) = not (names_indexed schema term)
is_unindexed_delete schema (delete_all terms) = not (list_all (names_indexed schema) terms)

-- the place of the first such operation
abbrev pub unindexed_delete_of : Schema → List Operation → Option ℕ
unindexed_delete_of schema operations = position (is_unindexed_delete schema) operations

-- ---- all tests, in their order

-- why the operations are refused by how they are cut in batches, filtered and named
abbrev pub shape_refusal : List Operation → List ℕ → List (Option Filter) → List Batch → List ℕ → Option TantivyError
shape_refusal operations cuts filters batches ids =
    option_or (unless (cuts_fit operations cuts) (InvalidArgument argument.Cuts))
    (option_or (unless (batches_fit cuts) (InvalidArgument argument.Batches))
    (option_or (unless (filters_fit filters batches) (InvalidArgument argument.Filters))
    (unless (ids_fit cuts ids) (InvalidArgument argument.SegmentIds))))

-- why no segment is begun: by the names of its fields, its settings, or their tokenizers
abbrev pub schema_refusal : Known → Schema → Settings → Option TantivyError
schema_refusal known schema settings =
    option_or (unless (names_fit schema) (InvalidArgument argument.FieldName))
    (option_or (unless (settings_fit settings) (InvalidArgument argument.Settings))
    (option_or (option_map (λ field. SchemaError (schema_cause.Tokenizer field)) (unknown_tokenizer_of known schema))
    (unless (not (list_any (has_unknown_fast_tokenizer known) schema)) (InvalidArgument argument.FastTokenizer))))

-- why a delete is refused
abbrev pub delete_refusal : Schema → List Operation → Option TantivyError
delete_refusal schema operations = option_map (λ at. SchemaError (schema_cause.DeleteField at))
    (unindexed_delete_of schema operations)

-- why an input is refused, if it is: the first test that fails tells
abbrev pub input_refusal : Known → Analyzer → Input → Option TantivyError
input_refusal known analyzer input =
    option_or (shape_refusal input.operations input.cuts input.filters (input_batches analyzer input) input.ids)
    (option_or (schema_refusal known input.schema input.settings)
    (delete_refusal input.schema input.operations))

-- ---- valid inputs

-- documents that one segment can hold: fewer than 2^31, and with columns
pub record FitsSegment (schema : Schema) (analyzer : Analyzer) (documents : List Document) : Type 0 where
  pub few : length documents < 2 ^ 31
  pub columns : is_some (columns schema analyzer documents) ≡ true

-- an input is valid where no test refuses it, each added document passes the check, and a segment can
-- hold each batch and the survivors
pub record IsValid (known : Known) (analyzer : Analyzer) (input : Input) : Type 0 where
  pub accepted : input_refusal known analyzer input ≡ None
  pub taken : AllByRecursion (λ d. document_refusal input.schema analyzer d ≡ None) (additions input.operations)
  pub batches : AllByRecursion (λ (b : Batch). FitsSegment input.schema analyzer b.documents)
      (input_batches analyzer input)
  pub survivors : FitsSegment input.schema analyzer (input_survivors analyzer input)
