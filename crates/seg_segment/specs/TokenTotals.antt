-- The totals of tokens that a file of postings tells.
use Rattle.std.specs.Prelude.{◌≡◌, ℕ, List, true, Option, Some, option_map, option_and_then}
use Rattle.std.specs.List.{slice_get}
use Rattle.seg_common.specs.LittleEndian.{u64_at}
use Rattle.seg_values.specs.declared.schema.FieldEntry.{FieldEntry}
use Rattle.seg_model.specs.Fields.{Schema, is_indexed}
use Rattle.seg_directory.specs.CompositeFiles.{composite, field_of}

-- the total of the tokens of a field: its part of the file of postings begins with it
abbrev pub token_total : List ℕ → ℕ → Option ℕ
token_total postings field =
    option_map (λ part. u64_at part 0) (option_and_then (λ parts. field_of parts field) (composite postings))

-- the file of postings tells these totals of the indexed fields of a schema
abbrev pub TellTotals : Schema → (ℕ × FieldEntry → ℕ) → List ℕ → Type 0
TellTotals schema total postings =
    (field : ℕ) (entry : FieldEntry) → slice_get schema field ≡ Some entry → is_indexed entry ≡ true
    → token_total postings field ≡ Some (total (field, entry))
