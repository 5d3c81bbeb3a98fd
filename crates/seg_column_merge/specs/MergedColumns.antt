-- Files of columns, merged: per key the rows of the files in an order.
use Rattle.std.specs.Prelude.{◌≡◌, ℕ, ◌^◌, ◌<◌, List, [], ◌++◌, map, filter, All, Option, Some, None, true, length, get_or, String, string_bytes}
use Rattle.std.specs.declared.alloc.Global.{Global}
use Rattle.std.specs.List.{flat_map}
use Rattle.seg_common.specs.TabulatedMaps.{is_among}
use Rattle.seg_common.specs.declared.column_type.ColumnType.{ColumnType}
use Rattle.seg_model.specs.Columns.{ColumnKey, ColumnValue, Columns, column_cmp, columns_from, is_number}
use Rattle.seg_model.specs.Join.{joined_keys}
use Rattle.seg_columns.specs.declared.error.ColumnError.{ColumnError}
use Rattle.seg_columns.specs.declared.error.ColumnError.TheVariants.{Mixed, Malformed, OutOfMemory}
use Rattle.seg_column_file.specs.ColumnFiles.{ColumnFile, IsColumnFile, NamedColumn, column_file_of, row_count}
use Rattle.seg_column_format.specs.ModelColumns.{column_key, column_rows, columns_in}
use Rattle.seg_column_file.specs.RowOrders.{Place, IsRow}

abbrev pub required_key : String Global × ColumnType → ColumnKey
required_key r = record { path = string_bytes r.0; type = r.1 }

-- the values that a row of a file with some columns has at a key
abbrev pub values_in_row : ColumnKey → List NamedColumn → ℕ → List ColumnValue
values_in_row key columns row =
    flat_map (λ c. get_or (column_rows c.stored.column) row [])
    (filter (λ c. is_among column_cmp (joined_keys (column_key c)) key) columns)

-- the columns of a file
abbrev pub columns_of_file : List ColumnFile → ℕ → List NamedColumn
columns_of_file files file = get_or (map (λ f. f.columns) files) file []

-- the values at a key, row by row
abbrev pub rows_at : List ColumnFile → List Place → ColumnKey → List (List ColumnValue)
rows_at files places key = map (λ p. values_in_row key (columns_of_file files p.0) p.1) places

-- the keys that the merged columns may have
abbrev pub merged_keys : List ColumnKey → List ColumnFile → List ColumnKey
merged_keys required files = required ++ flat_map (λ f. flat_map (λ c. joined_keys (column_key c)) f.columns) files

-- the merged columns; undefined where the numbers of a path have no type
abbrev pub merged_columns : List ColumnKey → List ColumnFile → List Place → Option Columns
merged_columns required files places = columns_from required (rows_at files places) (merged_keys required files)

-- ---- a merge

-- no numbers of another type are under a name that is required to have those of one
abbrev pub AgreesWith : ColumnKey → ColumnKey → Type 0
AgreesWith required key =
    is_number required.type ≡ true → is_number key.type ≡ true → key.path ≡ required.path → key.type ≡ required.type

-- what a merge asks for: there are such rows, fewer than 2^32, and each name is required to have numbers of one type at
-- most, which all numbers under it have
pub record CanMerge (required : List ColumnKey) (files : List ColumnFile) (places : List Place) : Type 0 where
  pub rows : All (IsRow (map (λ f. f.rows) files)) places
  pub few : length places < 2 ^ 32
  pub types : All (λ r. All (AgreesWith r) (required ++ flat_map (λ f. map column_key f.columns) files)) required

-- bytes are the file that it makes
pub record IsMerged (required : List ColumnKey) (files : List ColumnFile) (places : List Place)
    (bytes : List ℕ) : Type 0 where
  pub file : IsColumnFile bytes
  pub rows : row_count bytes ≡ length places
  pub columns : merged_columns required files places ≡ Some (columns_in (column_file_of bytes))

-- why it fails
abbrev pub MergeFails : Option Columns → ColumnError → Type 0
MergeFails merged Mixed = merged ≡ None
MergeFails merged Malformed = ⊥
MergeFails merged OutOfMemory = Unit {0}
