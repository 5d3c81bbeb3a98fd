-- What the tests of inputs answer on literals: a valid input, and one for each refusal.
use Rattle.std.proofs.Common.{◌≡◌, ℕ, true, false, List, [], ◌∷◌, Some, None, refl, arith}
use Rattle.std.specs.Prelude.{codes}
use Rattle.std.specs.Str.{bytes_eq}
use Rattle.seg_values.specs.declared.error.ArgumentCause.TheVariants as argument
use Rattle.seg_values.specs.declared.error.SchemaCause.TheVariants.{DeleteField, Tokenizer}
use Rattle.seg_values.specs.declared.error.TantivyError.TheVariants.{SchemaError, InvalidArgument}
use Rattle.seg_values.specs.declared.schema.FieldEntry.{FieldEntry}
use Rattle.seg_values.specs.declared.schema.FieldKind.TheVariants.{Text}
use Rattle.seg_values.specs.declared.schema.IndexOption.TheVariants.{No, Positions}
use Rattle.seg_common.specs.declared.precision.DateTimePrecision.TheVariants.{Seconds}
use Rattle.seg_common.specs.Varint.{varint_within}
use Rattle.seg_values.specs.Tree.{text, leaf}
use Rattle.seg_model.specs.Fields.{Analyzer}
use Rattle.seg_model.specs.Operations.{Operation, add, delete, delete_all, TermKey}
use Rattle.seg_model.specs.Input.{Input, uncompressed, lz4}
use Rattle.seg_model.specs.ValidInputs.{Known, input_refusal, IsValid}

-- the whole text is one token
abbrev analyzer : Analyzer
analyzer name s = record { offset_from = 0; offset_to = 0; position = 0; position_length = 1; text = s } ∷ []

abbrev known : Known
known name = bytes_eq name (codes "default")

abbrev title : FieldEntry
title = record { name = codes "title"; kind = Text; stored = true; index = Positions; tokenizer = Some (codes "default"); norms = true; fast = false; fast_tokenizer = None; precision = Seconds; expand_dots = false }

abbrev note : FieldEntry
note = record { name = codes "note"; kind = Text; stored = true; index = No; tokenizer = Some (codes "unknown"); norms = false; fast = false; fast_tokenizer = None; precision = Seconds; expand_dots = false }

abbrev said : List ℕ → Operation
said s = add ((0, leaf (text s)) ∷ [])

abbrev term : ℕ → TermKey
term field = record { field = field; bytes = codes "mug" }

-- two documents, of which the first is deleted, in two batches; a filter keeps the only document of the second
abbrev input : Input
input = record {
  schema = title ∷ note ∷ [];
  settings = record { compression = uncompressed; block_size = 16384; dedicated_thread = false };
  operations = said (codes "mug") ∷ delete (term 0) ∷ said (codes "pan") ∷ [];
  cuts = 2 ∷ [];
  filters = None ∷ Some (true ∷ []) ∷ [];
  ids = 1 ∷ 2 ∷ 3 ∷ [];
}

accepted : input_refusal known analyzer input ≡ None
accepted = refl

valid : IsValid known analyzer input
unfolding varint_within
valid = record {
  accepted = refl;
  taken = (refl, (refl, tt));
  batches = (record { few = omega arith; columns = refl }, (record { few = omega arith; columns = refl }, tt));
  survivors = record { few = omega arith; columns = refl };
}

falling_cuts : input_refusal known analyzer (record input { cuts = 2 ∷ 1 ∷ [] }) ≡ Some (InvalidArgument argument.Cuts)
falling_cuts = refl

cut_past_the_end : input_refusal known analyzer (record input { cuts = 4 ∷ [] }) ≡ Some (InvalidArgument argument.Cuts)
cut_past_the_end = refl

one_filter_short : input_refusal known analyzer (record input { filters = None ∷ [] }) ≡ Some (InvalidArgument argument.Filters)
one_filter_short = refl

filter_too_long : input_refusal known analyzer (record input { filters = None ∷ Some (true ∷ true ∷ []) ∷ [] }) ≡ Some (InvalidArgument argument.Filters)
filter_too_long = refl

one_id_short : input_refusal known analyzer (record input { ids = 1 ∷ 2 ∷ [] }) ≡ Some (InvalidArgument argument.SegmentIds)
one_id_short = refl

id_twice : input_refusal known analyzer (record input { ids = 1 ∷ 2 ∷ 1 ∷ [] }) ≡ Some (InvalidArgument argument.SegmentIds)
id_twice = refl

zero_in_name : input_refusal known analyzer (record input { schema = title ∷ record note { name = 97 ∷ 0 ∷ [] } ∷ [] }) ≡ Some (InvalidArgument argument.FieldName)
zero_in_name = refl

compressed : input_refusal known analyzer (record input { settings = record { compression = lz4; block_size = 16384; dedicated_thread = false } }) ≡ Some (InvalidArgument argument.Settings)
compressed = refl

-- a field that is not indexed asks for `default` alone, whatever it names
unknown_name : input_refusal known analyzer (record input { schema = title ∷ record note { index = Positions } ∷ [] }) ≡ Some (SchemaError (Tokenizer 1))
unknown_name = refl

unknown_default : input_refusal (λ name. false) analyzer input ≡ Some (SchemaError (Tokenizer 0))
unknown_default = refl

unknown_fast : input_refusal known analyzer (record input { schema = title ∷ record note { fast = true; fast_tokenizer = Some (codes "unknown") } ∷ [] }) ≡ Some (InvalidArgument argument.FastTokenizer)
unknown_fast = refl

-- by a field that is not indexed, and by one past the schema
deletes : input_refusal known analyzer (record input { operations = said (codes "mug") ∷ delete (term 1) ∷ said (codes "pan") ∷ [] }) ≡ Some (SchemaError (DeleteField 1))
deletes = refl

deletes_of_several : input_refusal known analyzer (record input { operations = said (codes "mug") ∷ delete_all (term 0 ∷ term 2 ∷ []) ∷ said (codes "pan") ∷ [] }) ≡ Some (SchemaError (DeleteField 1))
deletes_of_several = refl
