-- The columns of fields by their ids.
use Rattle.std.specs.Prelude.{◌≡◌, ℕ, List, [], ◌∷◌, true, false, Option, None, Some}
use Rattle.seg_common.specs.declared.column_type.ColumnType.{ColumnType}
use Rattle.seg_values.specs.declared.schema.FieldEntry.{FieldEntry}
use Rattle.seg_values.specs.Tree.{Leaf, null, text, pre_tokenized, unsigned, signed, boolean, date, facet, byte_string, ip}
use Rattle.seg_model.specs.Columns.{declared_type}
use Rattle.seg_model.specs.Fields.{Schema, is_json}
use Rattle.seg_column_writer.specs.ValueKinds.{kind_of}
use Rattle.seg_column_writer.specs.ColumnRecords.{ColumnRecord, place_of}
use Rattle.seg_column_writer.specs.RowOrderedColumns.{has_column}
use Rattle.seg_column_writer.specs.declared.value_kind.ValueKind.{ValueKind}
use Rattle.seg_column_writer.specs.declared.value_kind.ValueKind.TheVariants.{Number, Bytes, Str, Bool as Boolean, IpAddr, DateTime}
use Rattle.seg_column_writer.specs.declared.writer.ColumnId.{ColumnId}

-- an id that is known is that of the column of a path and a kind
abbrev pub IsColumnOf : Option ColumnId → List ℕ → ValueKind → List ColumnRecord → Type 0
IsColumnOf None path kind columns = Unit {0}
IsColumnOf (Some id) path kind columns = (has_column path kind columns ≡ true) × (id.place ≡ place_of columns path kind)

-- it is that of a field which isn't JSON
abbrev pub IsFieldColumn : List ColumnRecord → FieldEntry → Option ColumnId → Type 0
IsFieldColumn columns entry None = Unit {0}
IsFieldColumn columns entry (Some id) = (is_json entry.kind ≡ false)
    × ((type : ColumnType) → declared_type entry.kind ≡ Some type
    → id.place ≡ place_of columns entry.name (kind_of type))

-- one for each field
abbrev pub AreFieldColumns : List ColumnRecord → Schema → List (Option ColumnId) → Type 0
AreFieldColumns columns [] [] = Unit {0}
AreFieldColumns columns [] (id ∷ ids) = ⊥
AreFieldColumns columns (e ∷ es) [] = ⊥
AreFieldColumns columns (e ∷ es) (id ∷ ids) = IsFieldColumn columns e id × AreFieldColumns columns es ids

-- it is that of what a leaf records, if it records something
abbrev pub IsLeafColumn : Option ColumnId → List ℕ → Leaf → List ColumnRecord → Type 0
IsLeafColumn column path null columns = Unit {0}
IsLeafColumn column path (text s) columns = IsColumnOf column path Str columns
IsLeafColumn column path (pre_tokenized p) columns = IsColumnOf column path Str columns
IsLeafColumn column path (unsigned n) columns = IsColumnOf column path Number columns
IsLeafColumn column path (signed z) columns = IsColumnOf column path Number columns
IsLeafColumn column path (boolean b) columns = IsColumnOf column path Boolean columns
IsLeafColumn column path (date z) columns = IsColumnOf column path DateTime columns
IsLeafColumn column path (facet s) columns = IsColumnOf column path Str columns
IsLeafColumn column path (byte_string b) columns = IsColumnOf column path Bytes columns
IsLeafColumn column path (ip a) columns = IsColumnOf column path IpAddr columns

-- the column of a field is there, if it has one
abbrev pub IsThere : List ColumnRecord → FieldEntry → Type 0
IsThere columns entry = (type : ColumnType) → entry.fast ≡ true → declared_type entry.kind ≡ Some type
    → has_column entry.name (kind_of type) columns ≡ true
