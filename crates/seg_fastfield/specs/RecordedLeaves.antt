-- A walk over the leaves of a value of a field.
use Rattle.std.specs.Prelude.{◌≡◌, ℕ, ◌+◌, ℤ, pos, FitsSigned, List, [], true, false, ◌||◌, None, Some, Result, OnOk}
use Rattle.std.specs.Int.{w64}
use Rattle.std.specs.List.{flat_map}
use Rattle.seg_common.specs.declared.column_type.ColumnType.{ColumnType}
use Rattle.seg_common.specs.JsonPaths.{JsonPath}
use Rattle.seg_columns.specs.declared.error.ColumnError.{ColumnError}
use Rattle.seg_values.specs.declared.schema.FieldEntry.{FieldEntry}
use Rattle.seg_values.specs.Tree.{Leaf, null, text, pre_tokenized, unsigned, signed, boolean, date, facet, byte_string, ip, Tree}
use Rattle.seg_model.specs.Columns.{number, bytes_value, text_value, boolean_value, ip_value, date_value, declared_type, json_column_path}
use Rattle.seg_model.specs.Fields.{Analyzer, Schema, is_json}
use Rattle.seg_model.specs.Leaves.{leaves_at}
use Rattle.seg_model.specs.AcceptedTrees.{is_own_array}
use Rattle.seg_model.specs.ValidInputs.{Known}
use Rattle.seg_column_writer.specs.DocumentRows.{with_values}
use Rattle.seg_column_writer.specs.ValueKinds.{kind_of}
use Rattle.seg_column_writer.specs.ColumnRecords.{ColumnRecord}
use Rattle.seg_column_writer.specs.RowOrderedColumns.{has_column}
use Rattle.seg_column_writer.specs.declared.value_kind.ValueKind.{ValueKind}
use Rattle.seg_fastfield.specs.DeclaredColumns.{declared_by, first_columns}
use Rattle.seg_fastfield.specs.FastLeaves.{IsKnown, IsLevelOf, entry_leaf, path_at}
use Rattle.seg_fastfield.specs.FastFieldWriters.{AreUnderWay, MayCome}

-- a fast field of the schema: one with a column has it, with the type of its kind; at a path of a JSON field no column
-- is declared
pub record IsFieldOf (schema : Schema) (entry : FieldEntry) : Type 0 where
  pub fast : entry.fast ≡ true
  pub plain : (type : ColumnType) → declared_type entry.kind ≡ Some type
      → (has_column entry.name (kind_of type) (first_columns schema) ≡ true)
      × (declared_by schema entry.name (kind_of type) ≡ Some type)
  pub free : is_json entry.kind ≡ true → (keys : List (List ℕ)) (kind : ValueKind)
      → declared_by schema (json_column_path entry keys) kind ≡ None

-- a place of a field: its path, and its level below the first object
pub record IsPlaceOf (entry : FieldEntry) (keys : List (List ℕ)) (level : ℕ) (path : JsonPath) : Type 0 where
  pub path_is : path ≡ path_at entry keys
  pub level_is : IsLevelOf keys level
  pub plain : is_json entry.kind ≡ false → keys ≡ []

-- what is owed of a value of a field
pub record CanRecord (known : Known) (schema : Schema) (row : ℕ) (entry : FieldEntry) (path : JsonPath) (level : ℕ)
    (t : Tree) (columns : List ColumnRecord) : Type 0 where
  pub under_way : AreUnderWay schema (row + 1) columns
  pub field : IsFieldOf schema entry
  pub known_is : IsKnown known entry
  pub takes : (is_json entry.kind || is_own_array entry.kind t) ≡ true
  pub keys : List (List ℕ)
  pub place : IsPlaceOf entry keys level path

-- what is recorded of it
abbrev pub IsRecorded : Analyzer → ℕ → FieldEntry → List (List ℕ) → ℕ → Tree → JsonPath → JsonPath → List ColumnRecord
    → List ColumnRecord → Result (Unit {0}) ColumnError → Type 0
IsRecorded analyzer row entry keys level t old_path new_path old new result =
    IsPlaceOf entry keys level old_path → OnOk result ((new_path ≡ old_path)
    × (new ≡ with_values row (flat_map (entry_leaf analyzer entry) (leaves_at keys level t)) old))

-- what a leaf records may come
abbrev pub MayLeafCome : Schema → List ℕ → Leaf → Type 0
MayLeafCome schema path null = Unit {0}
MayLeafCome schema path (text s) = (s : List ℕ) → MayCome schema path (text_value s)
MayLeafCome schema path (pre_tokenized p) = (s : List ℕ) → MayCome schema path (text_value s)
MayLeafCome schema path (unsigned n) = MayCome schema path (number (pos n))
MayLeafCome schema path (signed z) = FitsSigned w64 z → MayCome schema path (number z)
MayLeafCome schema path (boolean b) = MayCome schema path (boolean_value b)
MayLeafCome schema path (date z) = (z : ℤ) → MayCome schema path (date_value z)
MayLeafCome schema path (facet s) = MayCome schema path (text_value s)
MayLeafCome schema path (byte_string b) = MayCome schema path (bytes_value b)
MayLeafCome schema path (ip a) = MayCome schema path (ip_value a)

-- what is owed of a leaf: each value of it may come at its path
pub record CanRecordLeaf (known : Known) (schema : Schema) (row : ℕ) (entry : FieldEntry) (path : List ℕ) (leaf : Leaf)
    (columns : List ColumnRecord) : Type 0 where
  pub under_way : AreUnderWay schema (row + 1) columns
  pub known_is : IsKnown known entry
  pub may_come : MayLeafCome schema path leaf

-- and of texts
pub record CanRecordTexts (schema : Schema) (row : ℕ) (path : List ℕ) (columns : List ColumnRecord) : Type 0 where
  pub under_way : AreUnderWay schema (row + 1) columns
  pub may_come : (s : List ℕ) → MayCome schema path (text_value s)
