-- Cases of inputs of which nothing is built.
use Rattle.std.specs.Prelude.{◌≡◌, negsuc, ℕ, ◌^◌, ◌-◌, List, [], ◌∷◌, map, length, codes, true, false, Bool, Option, Some, None}
use Rattle.std.specs.Str.{bytes_eq}
use Rattle.seg_values.specs.declared.error.ArgumentCause.TheVariants as argument
use Rattle.seg_values.specs.declared.error.SchemaCause.TheVariants.{UnknownField, DeleteField, Tokenizer}
use Rattle.seg_values.specs.declared.error.TantivyError.{TantivyError}
use Rattle.seg_values.specs.declared.error.TantivyError.TheVariants.{SchemaError, InvalidArgument}
use Rattle.seg_values.specs.declared.schema.FieldKind.TheVariants.{Text, Json}
use Rattle.seg_values.specs.declared.schema.IndexOption.TheVariants.{No, Positions}
use Rattle.seg_values.specs.Tree.{unsigned, signed, Tree, leaf, Document}
use Rattle.seg_model.specs.Operations.{Operation, add, delete}
use Rattle.seg_model.specs.Input.{Input, uncompressed, lz4}
use Rattle.seg_model.specs.ValidInputs.{Known, batches_fit, input_refusal}
use Rattle.seg_model.specs.Refusals.{count_refusal, build_refusal}
use Rattle.seg_model_cases.specs.CaseData.{analyzer, entry, only, one, keyed}

-- an input in which all is wrong, and the same with one thing after another put right
abbrev pub all_wrong : Input
all_wrong = record {
  schema = record (entry Text Positions) { name = 0 ∷ []; fast_tokenizer = Some (codes "other") } ∷ [];
  settings = record { compression = lz4; block_size = 16384; dedicated_thread = false };
  operations = delete (record { field = 1; bytes = [] }) ∷ [];
  cuts = 1 ∷ 0 ∷ [];
  filters = [];
  ids = [];
}

abbrev pub right_cuts : Input
right_cuts = record all_wrong { cuts = [] }

abbrev pub right_filters : Input
right_filters = record right_cuts { filters = None ∷ [] }

abbrev pub right_ids : Input
right_ids = record right_filters { ids = 5 ∷ 6 ∷ [] }

abbrev pub right_names : Input
right_names = record right_ids { schema = record (entry Text Positions) { fast_tokenizer = Some (codes "other") } ∷ [] }

abbrev pub right_settings : Input
right_settings = record right_names {
  settings = record {
    compression = uncompressed;
    block_size = 16384;
    dedicated_thread = false;
  };
}

abbrev pub knows_none : Known
knows_none name = false

abbrev pub knows_default : Known
knows_default name = bytes_eq name (codes "default")

abbrev pub knows_all : Known
knows_all name = true

-- a valid input of a JSON field, but for its documents
abbrev pub built_of : List Operation → List ℕ → List (Option (List Bool)) → List ℕ → Option TantivyError
built_of operations cuts filters ids = build_refusal knows_all analyzer (record right_settings {
  schema = only Json No;
  operations = operations;
  cuts = cuts;
  filters = filters;
  ids = ids;
})

abbrev pub n_is : Tree → Operation
n_is value = add (one (keyed (codes "n") value))

-- numbers that have no type in one column
abbrev pub negative : Operation
negative = n_is (leaf (signed (negsuc 0)))

abbrev pub large : Operation
large = n_is (leaf (unsigned 9223372036854775808))

-- a document with a field that is not there
abbrev pub untaken : Operation
untaken = add ((2, leaf (unsigned 7)) ∷ [])

-- the greatest number of documents and of cuts, and one more
pub record CountLimits : Type 0 where
  pub documents : (ds : List Document) → length ds ≡ 2 ^ 31 - 1 → count_refusal ds ≡ None
  pub too_many : (ds : List Document) → length ds ≡ 2 ^ 31
      → count_refusal ds ≡ Some (InvalidArgument argument.Documents)
  pub cuts : (cuts : List ℕ) → length cuts ≡ 2 ^ 32 - 2 → batches_fit cuts ≡ true
  pub too_many_cuts : (cuts : List ℕ) → length cuts ≡ 2 ^ 32 - 1 → batches_fit cuts ≡ false

pub record RefusalCases : Type 0 where
  pub limits : CountLimits
  pub order : map (input_refusal knows_none analyzer)
      (all_wrong ∷ right_cuts ∷ right_filters ∷ right_ids ∷ right_names ∷ right_settings ∷ [])
      ≡ Some (InvalidArgument argument.Cuts) ∷ Some (InvalidArgument argument.Filters)
      ∷ Some (InvalidArgument argument.SegmentIds) ∷ Some (InvalidArgument argument.FieldName)
      ∷ Some (InvalidArgument argument.Settings) ∷ Some (SchemaError (Tokenizer 0)) ∷ []
  pub fast_tokenizer : input_refusal knows_default analyzer right_settings
      ≡ Some (InvalidArgument argument.FastTokenizer)
  pub last : input_refusal knows_all analyzer right_settings ≡ Some (SchemaError (DeleteField 0))
  pub input_first : built_of (untaken ∷ []) (2 ∷ []) [] [] ≡ Some (InvalidArgument argument.Cuts)
  -- the documents of a batch come before its numbers, and these before the next batch
  pub documents_first : built_of (negative ∷ large ∷ untaken ∷ []) [] (None ∷ []) (5 ∷ 6 ∷ [])
      ≡ Some (SchemaError (UnknownField 2))
  pub batch_by_batch : built_of (negative ∷ large ∷ untaken ∷ []) (2 ∷ []) (None ∷ None ∷ []) (5 ∷ 6 ∷ 7 ∷ [])
      ≡ Some (InvalidArgument argument.Numbers)
  -- numbers of two batches meet in the survivors, unless a filter parts them
  pub survivors : built_of (negative ∷ large ∷ []) (1 ∷ []) (None ∷ None ∷ []) (5 ∷ 6 ∷ 7 ∷ [])
      ≡ Some (InvalidArgument argument.Numbers)
  pub parted : built_of (negative ∷ large ∷ []) (1 ∷ []) (None ∷ Some (false ∷ []) ∷ []) (5 ∷ 6 ∷ 7 ∷ []) ≡ None
