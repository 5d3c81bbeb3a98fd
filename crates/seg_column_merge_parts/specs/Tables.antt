-- The columns of files and those that are required, by path and type.
use Rattle.std.specs.Prelude.{ℕ, ◌+◌, List, [], ◌∷◌, ◌++◌, map, Option, Some, None, String, string_bytes}
use Rattle.std.specs.Borrow.{Bor}
use Rattle.std.specs.declared.alloc.Global.{Global}
use Rattle.std.specs.Ordering.{nat_cmp, ordering_then}
use Rattle.std.specs.declared.cmp.Ordering.{Ordering}
use Rattle.std.specs.Cmp.Lexicographic.{slice_cmp}
use Rattle.seg_common.specs.declared.column_type.ColumnType.{ColumnType}
use Rattle.seg_common.specs.declared.column_type.ColumnType.TheVariants.{I64, U64, Bytes, Str, Bool as Boolean, IpAddr, DateTime}
use Rattle.seg_columns.specs.DynamicColumns.{StoredColumn, type_of}
use Rattle.seg_column_file.specs.ColumnFiles.{ColumnFile, NamedColumn}
use Rattle.seg_column_merge_parts.specs.declared.tables.TableRow.{TableRow}
use Rattle.seg_column_merge_parts.specs.declared.tables.FileColumn.{FileColumn}

-- a column of a file, by the number of the file
pub record PlacedColumn : Type 0 where
  pub file : ℕ
  pub stored : StoredColumn

-- a column of a file, or one that is required, by its path and type
pub record Row : Type 0 where
  pub path : List ℕ
  pub type : ColumnType
  pub column : Option PlacedColumn

abbrev pub required_row : String Global × ColumnType → Row
required_row r = record { path = string_bytes r.0; type = r.1; column = None }

abbrev pub file_row : ℕ → NamedColumn → Row
file_row file c = record {
  path = c.path;
  type = type_of c.stored.column;
  column = Some (record { file = file; stored = c.stored });
}

-- the columns of files, of which the first has the number `first`
abbrev pub file_rows : ℕ → List ColumnFile → List Row
file_rows first [] = []
file_rows first (f ∷ fs) = map (file_row first) f.columns ++ file_rows (first + 1) fs

-- all rows, in the order in which they come
abbrev pub all_rows : List (String Global × ColumnType) → List ColumnFile → List Row
all_rows required files = map required_row required ++ file_rows 0 files

-- columns of one kind go into one column: both types of numbers are one kind
abbrev pub kind_of : ColumnType → ℕ
kind_of I64 = 0
kind_of U64 = 0
kind_of Bytes = 1
kind_of Str = 2
kind_of Boolean = 3
kind_of IpAddr = 4
kind_of DateTime = 5

-- ---- a row of the code

abbrev pub placed_column : FileColumn → PlacedColumn
placed_column c = record { file = c.file; stored = c.handle }

abbrev pub column_in : Option FileColumn → Option PlacedColumn
column_in None = None
column_in (Some c) = Some (placed_column c)

abbrev pub row_of : TableRow → Row
row_of r = record { path = r.path.now; type = r.column_type; column = column_in r.column }

-- ---- their order

-- rows are ordered by these: the bytes of the path, and the kind
abbrev pub table_key : TableRow → Bor (List ℕ) × ℕ
table_key r = (r.path, kind_of r.column_type)

abbrev pub table_key_cmp : Bor (List ℕ) × ℕ → Bor (List ℕ) × ℕ → Ordering
table_key_cmp x y = ordering_then (slice_cmp nat_cmp x.0.now y.0.now) (nat_cmp x.1 y.1)
