-- The columns of a segment, by the names of its fields.
use Rattle.std.specs.Prelude.{ℕ, ◌^◌, ◌-◌, min, List, [], Bool, true, false, Option, Some, None, sum_by, nat_eq, if◌then◌else◌, option_map}
use Rattle.std.specs.List.{list_any}
use Rattle.std.specs.Borrow.{Bor}
use Rattle.seg_common.specs.declared.column_type.ColumnType.{ColumnType}
use Rattle.seg_values.specs.declared.schema.FieldEntry.{FieldEntry}
use Rattle.seg_model.specs.Columns.{type_place}
use Rattle.seg_columns.specs.declared.dynamic_column.DynamicColumn.{DynamicColumn}
use Rattle.seg_columns.specs.declared.dynamic_column.DynamicColumn.TheVariants as columns
use Rattle.seg_columns.specs.DynamicColumns.{StoredColumn, numbers_of, type_of}
use Rattle.seg_columns.specs.TermColumns.{TermColumn}
use Rattle.seg_column_file.specs.ColumnFiles.{ColumnFile, is_below, is_selected, stored_where}

-- the fields of a segment, and its file of columns
pub record FastFields : Type 0 where
  pub schema : List FieldEntry
  pub file : ColumnFile

-- the columns of a path, in order of type; without a path there is none
abbrev pub columns_at : ColumnFile → Option (List ℕ) → List StoredColumn
columns_at file None = []
columns_at file (Some path) = stored_where (is_selected false path) file.columns

-- those of all paths below one, in order of path and type
abbrev pub columns_below : ColumnFile → Option (List ℕ) → List StoredColumn
columns_below file None = []
columns_below file (Some path) = stored_where (is_below path) file.columns

-- ---- one of several columns

abbrev pub is_same_type : ColumnType → ColumnType → Bool
is_same_type type other = nat_eq (type_place type) (type_place other)

-- a column, if it has this type
abbrev pub of_type : ColumnType → StoredColumn → Option StoredColumn
of_type type c = if is_same_type type (type_of c.column) then Some c else None

abbrev pub str_column : DynamicColumn → Option TermColumn
str_column (columns.Str column) = Some column
str_column _ = None

abbrev pub bytes_column : DynamicColumn → Option TermColumn
bytes_column (columns.Bytes column) = Some column
bytes_column _ = None

-- whether a type is one of those asked for, which may be all
abbrev pub is_asked : Option (Bor (List ColumnType)) → ColumnType → Bool
is_asked None type = true
is_asked (Some types) type = list_any (is_same_type type) types.now

-- the numbers that stand for the values of a column with an asked type, where they have any, and the type
abbrev pub lenient : Option (Bor (List ColumnType)) → StoredColumn → Option (List (List ℕ) × ColumnType)
lenient types c =
    if is_asked types (type_of c.column)
    then option_map (λ rows. (rows, type_of c.column)) (numbers_of c.column) else None

-- the bytes of columns, at most 2^64 - 1
abbrev pub bytes_in : List StoredColumn → ℕ
bytes_in columns = min (2 ^ 64 - 1) (sum_by (λ c. c.size) columns)
