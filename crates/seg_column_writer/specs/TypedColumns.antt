-- Which columns are written, and with which types.
use Rattle.std.specs.Prelude.{◌≡◌, ℕ, suc, ◌<◌, false, List, [], ◌∷◌, ◌++◌, length, map, get_or, Option, None, Some, All, IsUtf8, if◌then◌else◌}
use Rattle.std.specs.List.{AllByRecursion, IsDistinct, list_any}
use Rattle.seg_column_file.specs.ColumnFiles.{IsColumnFile, column_file_of, columns_from, row_count}
use Rattle.seg_columns.specs.declared.error.ColumnError.{ColumnError}
use Rattle.seg_columns.specs.declared.error.ColumnError.TheVariants.{Mixed, OutOfMemory}
use Rattle.seg_common.specs.declared.column_type.ColumnType.{ColumnType}
use Rattle.seg_model.specs.Columns.{ColumnKey, ColumnValue, Columns}
use Rattle.seg_column_format.specs.FileBytes.{AreInOrder, WrittenColumn}
use Rattle.seg_column_writer.specs.NamedColumns.{AreNamed, PathKind, column_in, name_eq}
use Rattle.seg_column_format.specs.ModelColumns.{column_key, column_rows, columns_in}
use Rattle.seg_column_writer.specs.RecordedColumns.{IsRecorded, column_type_of, is_there, lacks_type, recorded_columns, rows_in}
use Rattle.seg_column_writer.specs.ColumnRecords.{ColumnRecord, Recording}
use Rattle.seg_column_writer.specs.declared.typed_column.TypedColumn.{TypedColumn}

-- the path of the column at a place, or none
abbrev pub path_in : List PathKind → ℕ → List ℕ
path_in names place = (get_or names place (record { head = 0; bytes = [] })).bytes

abbrev pub key_at : List PathKind → TypedColumn → ColumnKey
key_at names t = record { path = path_in names t.place; type = t.column_type }

-- its key, and the rows that it has in a file of this many rows
abbrev pub entry_at : ℕ → List PathKind → List Recording → TypedColumn → ColumnKey × List (List ColumnValue)
entry_at count names columns t = (key_at names t, rows_in count (column_in columns t.place))

-- as it stands in the table of a file, without its bytes
abbrev pub in_table : List PathKind → TypedColumn → WrittenColumn
in_table names t = record { path = path_in names t.place; type = t.column_type; bytes = [] }

-- no value is of a row beyond this many
abbrev pub IsWithin : ℕ → Recording → Type 0
IsWithin count r = All (λ v. v.row < count) r.values

-- a column of a file of this many rows, with its type
pub record IsTyped (count : ℕ) (names : List PathKind) (columns : List Recording) (t : TypedColumn) : Type 0 where
  pub place : t.place < length columns
  pub type : column_type_of (column_in columns t.place) ≡ Some t.column_type
  pub utf8 : IsUtf8 (path_in names t.place)
  pub within : IsWithin count (column_in columns t.place)

-- columns that a file of this many rows may have, in its order
pub record AreTyped (count : ℕ) (names : List PathKind) (columns : List Recording)
    (typed : List TypedColumn) : Type 0 where
  pub each : AllByRecursion (IsTyped count names columns) typed
  pub order : AreInOrder (map (in_table names) typed)

-- bytes are a file of this many rows, whose columns are these
pub record IsFileOf (count : ℕ) (entries : List (ColumnKey × List (List ColumnValue))) (bytes : List ℕ) : Type 0 where
  pub file : IsColumnFile bytes
  pub rows : row_count bytes ≡ count
  pub columns : map (λ c. (column_key c, column_rows c.stored.column)) (columns_from bytes 0) ≡ entries

-- ---- the columns that are written

-- the type with which a column is written, where it is there
abbrev pub written_type : Recording → Option ColumnType
written_type r = if is_there r then column_type_of r else None

abbrev pub typed_at : ℕ → Option ColumnType → List TypedColumn
typed_at place None = []
typed_at place (Some type) = record { place = place; column_type = type } ∷ []

-- the columns from a place on, in the order in which they came
abbrev pub typed_from : ℕ → List Recording → List TypedColumn
typed_from place [] = []
typed_from place (r ∷ rs) = typed_at place (written_type r) ++ typed_from (suc place) rs

-- ---- the whole

-- columns with distinct names, whose numbers have a type, and whose values are of this many rows
pub record AreReady (count : ℕ) (names : List PathKind) (columns : List Recording) : Type 0 where
  pub are_named : AreNamed names columns
  pub distinct : IsDistinct name_eq names
  pub recorded : AllByRecursion IsRecorded columns
  pub within : AllByRecursion (IsWithin count) columns
  pub typed : list_any lacks_type columns ≡ false

-- bytes are a file of this many rows, whose columns are those that were recorded
pub record IsRecordedFile (count : ℕ) (columns : List ColumnRecord) (bytes : List ℕ) : Type 0 where
  pub file : IsColumnFile bytes
  pub rows : row_count bytes ≡ count
  pub recorded : recorded_columns count columns ≡ Some (columns_in (column_file_of bytes))

-- why there is no file of columns
abbrev pub refusal_of : Option Columns → ColumnError
refusal_of None = Mixed
refusal_of (Some columns) = OutOfMemory
