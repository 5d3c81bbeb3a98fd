-- The bytes of a merged column.
use Rattle.std.specs.Prelude.{◌≡◌, ◌⊎◌, ℕ, All, Bool, true, List, [], ◌++◌, Option, Some, None, get_or, length, map}
use Rattle.std.specs.List.{list_all}
use Rattle.seg_common.specs.declared.column_type.ColumnType.{ColumnType}
use Rattle.seg_common.specs.declared.column_type.ColumnType.TheVariants.{I64, U64, Bytes, Str, Bool as Boolean, DateTime}
use Rattle.seg_model.specs.Columns.{ColumnValue, fits_i64, is_not_negative, is_number}
use Rattle.seg_columns.specs.DynamicColumns.{IsColumnOf, column_of, type_of}
use Rattle.seg_column_format.specs.ModelColumns.{column_rows}
use Rattle.seg_column_merge.specs.Cells.{cells}
use Rattle.seg_column_merge_parts.specs.KeptColumns.{kept_fit}
use Rattle.seg_column_file.specs.KeptRows.{AreMarks}
use Rattle.seg_column_merge.specs.MergedColumns.{CanMerge, required_key}
use Rattle.seg_column_file.specs.RowOrders.{Place, IsRow, rows_in_order}
use Rattle.seg_column_merge_parts.specs.Tables.{Row, row_of}
use Rattle.seg_column_merge.specs.declared.merge.Merge.{Merge}
use Rattle.seg_column_merge_parts.specs.declared.tables.FileColumn.{FileColumn}
use Rattle.seg_column_merge_parts.specs.declared.tables.TableRow.{TableRow}

-- the rows that a merge keeps
abbrev pub places_of : Merge → List Place
places_of merge = rows_in_order merge.counts.now merge.order.now

-- they can be merged, are there, and marked
pub record IsMerge (merge : Merge) : Type 0 where
  pub counts : merge.counts.now ≡ map (λ f. f.rows) merge.columnars.now
  pub can : CanMerge (map required_key merge.required.now) merge.columnars.now (places_of merge)
  pub rows : All (IsRow merge.counts.now) (places_of merge)
  pub marks : AreMarks merge.counts.now (places_of merge) merge.kept.now

-- a column of this type, or none
abbrev pub HasType : ColumnType → Option FileColumn → Type 0
HasType type None = Unit {0}
HasType type (Some c) = type_of (c.handle).column ≡ type

-- a type of columns with terms
abbrev pub IsTermType : ColumnType → Type 0
IsTermType Bytes = Unit {0}
IsTermType Str = Unit {0}
IsTermType _ = ⊥

-- a type of columns whose values are written as numbers
abbrev pub IsNumberType : ColumnType → Type 0
IsNumberType I64 = Unit {0}
IsNumberType U64 = Unit {0}
IsNumberType Boolean = Unit {0}
IsNumberType DateTime = Unit {0}
IsNumberType _ = ⊥

-- a column of signed or unsigned numbers, or none
abbrev pub HasNumbers : Option FileColumn → Type 0
HasNumbers None = Unit {0}
HasNumbers (Some c) = is_number (type_of (c.handle).column) ≡ true

-- a type of numbers holds all of some rows
abbrev pub HoldsAll : ColumnType → List (List ColumnValue) → Type 0
HoldsAll I64 values = list_all (list_all fits_i64) values ≡ true
HoldsAll U64 values = list_all (list_all is_not_negative) values ≡ true
HoldsAll _ values = ⊥

-- the values of rows can be in a column of a type: all are of it, or they are numbers and it holds them
abbrev pub SuitsType : ColumnType → List TableRow → List Place → Type 0
SuitsType type rows places = All (λ r. HasType type r.column) rows
    ⊎ (All (λ r. HasNumbers r.column) rows × HoldsAll type (cells (map row_of rows) places))

-- kept rows of a column's file have values of its type
abbrev pub RowFits : List (List Bool) → Option FileColumn → Type 0
RowFits kept None = Unit {0}
RowFits kept (Some c) = kept_fit (get_or kept c.file []) (c.handle).column

-- the bytes of a column were added, which has the values of some columns at places
pub record AddsMerged (type : ColumnType) (rows : List Row) (places : List Place) (old new : List ℕ) : Type 0 where
  pub bytes : List ℕ
  pub added : new ≡ old ++ bytes
  pub column : IsColumnOf type (length places) bytes
  pub read : column_rows (column_of type (length places) bytes) ≡ cells rows places
