-- Which column the rows of one path and kind have, and in which type.
use Rattle.std.specs.Prelude.{◌≡◌, ℕ, All, Bool, false, List, [], ◌∷◌, Option, Some, None, get_or, if◌then◌else◌}
use Rattle.std.specs.List.{list_any}
use Rattle.seg_common.specs.declared.column_type.ColumnType.{ColumnType}
use Rattle.seg_model.specs.Columns.{ColumnValue, free_number_type, is_filled, is_number}
use Rattle.seg_column_merge.specs.Cells.{is_absent}
use Rattle.seg_column_merge.specs.Groups.{AreOfFiles}
use Rattle.seg_column_merge_parts.specs.KeptColumns.{any_kept_value, range_with}
use Rattle.seg_column_merge.specs.MergedBytes.{HasType, RowFits}
use Rattle.seg_column_merge_parts.specs.NumberRanges.{type_of_range}
use Rattle.seg_column_merge_parts.specs.Tables.{Row, kind_of}
use Rattle.seg_column_merge_parts.specs.declared.number_range.NumberRange.{NumberRange}
use Rattle.seg_column_merge_parts.specs.declared.tables.FileColumn.{FileColumn}
use Rattle.seg_column_merge_parts.specs.declared.tables.TableRow.{TableRow}

-- ---- what the kept rows have of the columns of rows

abbrev pub with_column : List (List Bool) → NumberRange → Option FileColumn → NumberRange
with_column kept range None = range
with_column kept range (Some c) = range_with (get_or kept c.file []) range (c.handle).column

abbrev pub range_of : List (List Bool) → NumberRange → List TableRow → NumberRange
range_of kept range [] = range
range_of kept range (r ∷ rs) = range_of kept (with_column kept range r.column) rs

abbrev pub has_value : List (List Bool) → Option FileColumn → Bool
has_value kept None = false
has_value kept (Some c) = any_kept_value (get_or kept c.file []) (c.handle).column

-- ---- the type of a column: none where it isn't there, nothing where its numbers have no type

abbrev pub as_there : Option ColumnType → Option (Option ColumnType)
as_there None = None
as_there (Some type) = Some (Some type)

-- that isn't required, with these values
abbrev pub free_type : ColumnType → List (List ColumnValue) → Option (Option ColumnType)
free_type type values =
    if list_any is_filled values then (if is_number type then as_there (free_number_type values) else Some (Some type))
    else Some None

-- by the first of its rows, which is one that is required where any is
abbrev pub merged_type : List Row → List (List ColumnValue) → Option (Option ColumnType)
merged_type [] values = Some None
merged_type (r ∷ rs) values = if is_absent r.column then Some (Some r.type) else free_type r.type values

-- the type that a range of numbers tells
abbrev pub range_type : NumberRange → Option (Option ColumnType)
range_type range = if range.some then as_there (type_of_range range) else Some None

-- ---- what a decision needs

-- columns of one kind, whose kept values are those of their types
pub record AreDecidable (counts : List ℕ) (kept : List (List Bool)) (rows : List TableRow) : Type 0 where
  pub files : AreOfFiles counts 0 rows
  pub types : All (λ r. HasType r.column_type r.column) rows
  pub fits : All (λ r. RowFits kept r.column) rows
  pub kinds : (kind : ℕ) × All (λ r. kind_of r.column_type ≡ kind) rows
