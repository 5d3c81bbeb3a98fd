-- A file of columns: their bytes one after another, their table, its length, the number of rows, version 1.
use Rattle.std.specs.Prelude.{◌≡◌, ℕ, ◌+◌, ◌-◌, ◌<◌, ◌≤◌, ◌==◌, ◌&&◌, if◌then◌else◌, Bool, List, length, map, filter, take, get_or, slice_range, nat_lt}
use Rattle.std.specs.Str.{bytes_eq}
use Rattle.std.specs.Borrow.{Bor}
use Rattle.std.specs.List.{range_with_len}
use Rattle.seg_common.specs.LittleEndian.{u32_at, u64_at}
use Rattle.seg_columns.specs.DynamicColumns.{IsColumnOf, StoredColumn, stored_column}
use Rattle.seg_column_file.specs.ColumnTable.{AreEntries, code_in, column_start, path_in, place_of, type_of_code}

-- ---- the columns in bytes, by their table

-- the bytes of a column
unfoldable pub column_bytes : List ℕ → List ℕ → ℕ → List ℕ
column_bytes bytes table i = slice_range bytes (column_start table i) (column_start table (i + 1))

-- the columns of a table with this many entries are the first bytes, as many as are told
pub record HoldsColumns (bytes table : List ℕ) (count size rows : ℕ) : Type 0 where
  pub rise : (i : ℕ) → i < count → column_start table i ≤ column_start table (i + 1)
  pub fill : column_start table count ≡ size
  pub columns : (i : ℕ) → i < count
      → IsColumnOf (type_of_code (code_in table (place_of table i))) rows (column_bytes bytes table i)

-- a column with its path
pub record NamedColumn : Type 0 where
  pub path : List ℕ
  pub stored : StoredColumn

-- a column as an iterator gives it
abbrev pub named : Bor (List ℕ) × StoredColumn → NamedColumn
named item = record { path = item.0.now; stored = item.1 }

-- the column of an entry
unfoldable pub named_column : List ℕ → List ℕ → ℕ → ℕ → NamedColumn
named_column bytes table rows i = record {
  path = path_in table (place_of table i);
  stored = stored_column (type_of_code (code_in table (place_of table i))) rows (column_bytes bytes table i);
}

-- ---- the whole

abbrev pub table_length : List ℕ → ℕ
table_length bytes = u64_at bytes (length bytes - 16)

abbrev pub row_count : List ℕ → ℕ
row_count bytes = u32_at bytes (length bytes - 8)

-- how many bytes the columns have
abbrev pub data_length : List ℕ → ℕ
data_length bytes = length bytes - (16 + table_length bytes)

abbrev pub table_of : List ℕ → List ℕ
table_of bytes = slice_range bytes (data_length bytes) (length bytes - 16)

abbrev pub column_count : List ℕ → ℕ
column_count bytes = u64_at (table_of bytes) 0

-- the last numbers of bytes are those of a file, and tell a table within them
pub record HasFooter (bytes : List ℕ) : Type 0 where
  pub room : 24 ≤ length bytes
  pub version : u32_at bytes (length bytes - 4) ≡ 1
  pub counted : 8 ≤ table_length bytes
  pub within : 16 + table_length bytes ≤ length bytes

-- bytes are a file of columns
pub record IsColumnFile (bytes : List ℕ) : Type 0 where
  pub footer : HasFooter bytes
  pub entries : AreEntries (table_of bytes) (column_count bytes)
  pub columns : HoldsColumns bytes (table_of bytes) (column_count bytes) (data_length bytes) (row_count bytes)

-- the columns of a file in order of path and type, each with as many rows
pub record ColumnFile : Type 0 where
  pub rows : ℕ
  pub columns : List NamedColumn

-- the columns from a place on
unfoldable pub columns_from : List ℕ → ℕ → List NamedColumn
columns_from bytes place =
    map (named_column bytes (table_of bytes) (row_count bytes)) (range_with_len place (column_count bytes - place))

-- what such bytes read as
abbrev pub column_file_of : List ℕ → ColumnFile
column_file_of bytes = record { rows = row_count bytes; columns = columns_from bytes 0 }

-- columns are what the bytes of some file read as
pub record IsOfFile (file : ColumnFile) : Type 0 where
  pub bytes : List ℕ
  pub is_file : IsColumnFile bytes
  pub read : file ≡ column_file_of bytes

-- ---- the columns of a path

-- whether a path goes on after another one, after a byte 1
abbrev pub is_below : List ℕ → List ℕ → Bool
is_below path longer = nat_lt (length path) (length longer) &&
    ((get_or longer (length path) 0 == 1) && bytes_eq (take (length path) longer) path)

-- whether a path is another one, or is below it
abbrev pub is_selected : Bool → List ℕ → List ℕ → Bool
is_selected below path other = if below then is_below path other else bytes_eq other path

-- the columns whose paths pass a test, in order
abbrev pub stored_where : (List ℕ → Bool) → List NamedColumn → List StoredColumn
stored_where test columns = map (λ c. c.stored) (filter (λ c. test c.path) columns)
