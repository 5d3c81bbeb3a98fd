-- What columns say, as entries of metadata.
use Rattle.std.specs.Prelude.{◌≡◌, ℕ, Bool, false, List, [], ◌∷◌, Option, Some, None}
use Rattle.std.specs.List.{slice_get}
use Rattle.seg_common.specs.declared.column_type.ColumnType.{ColumnType}
use Rattle.seg_common.specs.declared.column_type.ColumnType.TheVariants as columns
use Rattle.seg_values.specs.NameSearch.{Finds}
use Rattle.seg_values.specs.declared.field_type.FieldType.{FieldType}
use Rattle.seg_values.specs.declared.field_type.FieldType.TheVariants as types
use Rattle.seg_values.specs.declared.schema.FieldEntry.{FieldEntry}
use Rattle.seg_columns.specs.DynamicColumns.{type_of}
use Rattle.seg_column_file.specs.ColumnFiles.{NamedColumn}
use Rattle.seg_field_metadata.specs.MetadataEntries.{Entry}
use Rattle.seg_field_metadata.specs.ListedNames.{EscapedName, column_name}

-- the type of a field that is named like that of a column
abbrev pub field_type : ColumnType → FieldType
field_type columns.I64 = types.I64
field_type columns.U64 = types.U64
field_type columns.Bytes = types.Bytes
field_type columns.Str = types.Str
field_type columns.Bool = types.Bool
field_type columns.IpAddr = types.IpAddr
field_type columns.DateTime = types.Date

abbrev pub stored_at : Option FieldEntry → Bool
stored_at None = false
stored_at (Some entry) = entry.stored

-- whether the field that was found is stored
abbrev pub stored_of : List FieldEntry → Option (ℕ × List ℕ) → Bool
stored_of schema None = false
stored_of schema (Some found) = stored_at (slice_get schema found.0)

-- whether that is so of the field that a name finds
abbrev pub IsStored : List FieldEntry → List ℕ → Bool → Type 0
IsStored schema name stored =
    (found : Option (ℕ × List ℕ)) × Finds schema name None found × (stored ≡ stored_of schema found)

abbrev pub column_entry : List EscapedName → NamedColumn → Bool → Entry
column_entry names c stored = (
  record { name = column_name names c.path; type = field_type (type_of c.stored.column) },
  record { stored = stored; fast = Some c.stored.size; terms = None; postings = None; positions = None },
)

-- the entries of columns, in their order
abbrev pub ColumnsSay : List FieldEntry → List EscapedName → List NamedColumn → List Entry → Type 0
ColumnsSay schema names [] es = es ≡ []
ColumnsSay schema names (c ∷ cs) es =
    (stored : Bool) × IsStored schema (column_name names c.path) stored
    × (rest : List Entry) × ColumnsSay schema names cs rest × (es ≡ column_entry names c stored ∷ rest)
