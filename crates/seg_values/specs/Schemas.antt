-- Schemas, and the fields of one that pass a test.
use Rattle.std.specs.Prelude.{Bool, false, List, Option, Some, None}
use Rattle.seg_values.specs.declared.schema.FieldEntry.{FieldEntry}

-- a schema: its field entries, of which a field is a place
abbrev pub Schema : Type 0
Schema = List FieldEntry

-- whether a field is in the schema and passes a test
abbrev pub is_field : (FieldEntry → Bool) → Option FieldEntry → Bool
is_field test None = false
is_field test (Some entry) = test entry
