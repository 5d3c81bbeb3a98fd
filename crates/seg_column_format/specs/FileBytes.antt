-- The bytes of a file of columns, from its columns in order.
use Rattle.std.specs.Prelude.{◌≡◌, ℕ, ◌+◌, ◌&&◌, ◌||◌, Bool, true, List, [], ◌∷◌, ◌++◌, length, IsUtf8}
use Rattle.std.specs.List.{flat_map, AllByRecursion}
use Rattle.std.specs.Int.{w32, w64, to_le_bytes}
use Rattle.std.specs.Ordering.{nat_cmp, is_eq, is_lt}
use Rattle.std.specs.Cmp.Lexicographic.{slice_cmp}
use Rattle.seg_common.specs.declared.column_type.ColumnType.{ColumnType}
use Rattle.seg_common.specs.declared.column_type.ColumnType.TheVariants as types
use Rattle.seg_columns.specs.DynamicColumns.{IsColumnOf, stored_column}
use Rattle.seg_column_file.specs.ColumnFiles.{NamedColumn}
use Rattle.seg_column_file.specs.ColumnTable.{are_apart}

-- the code of a type
abbrev pub code_of : ColumnType → ℕ
code_of types.I64 = 0
code_of types.U64 = 1
code_of types.Bytes = 2
code_of types.Str = 3
code_of types.Bool = 4
code_of types.IpAddr = 5
code_of types.DateTime = 6

-- a column in its bytes, with its path
pub record WrittenColumn : Type 0 where
  pub path : List ℕ
  pub type : ColumnType
  pub bytes : List ℕ

-- the bytes of all columns, one after another
abbrev pub data_bytes : List WrittenColumn → List ℕ
data_bytes columns = flat_map (λ c. c.bytes) columns

-- the entry of a column: its path, the code of its type, and where its bytes end
abbrev pub entry_bytes : ℕ → List ℕ → ColumnType → List ℕ
entry_bytes end path type = to_le_bytes w64 (length path) ++ (path ++ (code_of type ∷ to_le_bytes w64 end))

-- the entries of columns whose bytes come after this many others
abbrev pub entries_bytes : ℕ → List WrittenColumn → List ℕ
entries_bytes before [] = []
entries_bytes before (c ∷ cs) =
    entry_bytes (before + length c.bytes) c.path c.type ++ entries_bytes (before + length c.bytes) cs

-- how many columns there are, and their entries
unfoldable pub table_bytes : List WrittenColumn → List ℕ
table_bytes columns = to_le_bytes w64 (length columns) ++ entries_bytes 0 columns

-- the length of the table, the number of rows, and the version
abbrev pub footer_bytes : ℕ → ℕ → List ℕ
footer_bytes table rows = to_le_bytes w64 table ++ (to_le_bytes w32 rows ++ to_le_bytes w32 1)

unfoldable pub file_bytes : ℕ → List WrittenColumn → List ℕ
file_bytes rows columns =
    data_bytes columns ++ (table_bytes columns ++ footer_bytes (length (table_bytes columns)) rows)

-- ---- which columns a file may have

-- whether a column may stand after another: paths ascend in byte order, and of one path the types, not I64 and U64
abbrev pub may_stand_after : WrittenColumn → WrittenColumn → Bool
may_stand_after c d =
    is_lt (slice_cmp nat_cmp c.path d.path)
    || (is_eq (slice_cmp nat_cmp c.path d.path) && are_apart (code_of c.type) (code_of d.type))

-- each column may stand after the one before it
abbrev pub AreInOrder : List WrittenColumn → Type 0
AreInOrder [] = Unit {0}
AreInOrder (c ∷ []) = Unit {0}
AreInOrder (c ∷ d ∷ cs) = (may_stand_after c d ≡ true) × AreInOrder (d ∷ cs)

-- a column of this many rows
pub record IsWritten (rows : ℕ) (c : WrittenColumn) : Type 0 where
  pub utf8 : IsUtf8 c.path
  pub column : IsColumnOf c.type rows c.bytes

-- columns that a file of this many rows may have
pub record AreColumns (rows : ℕ) (columns : List WrittenColumn) : Type 0 where
  pub each : AllByRecursion (IsWritten rows) columns
  pub order : AreInOrder columns

-- what a column of a file reads as
abbrev pub read_column : ℕ → WrittenColumn → NamedColumn
read_column rows c = record { path = c.path; stored = stored_column c.type rows c.bytes }
