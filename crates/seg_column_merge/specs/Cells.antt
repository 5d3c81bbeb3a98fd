-- The values of merged rows, by the columns of one path and kind.
use Rattle.std.specs.Prelude.{ℕ, ◌&&◌, Bool, true, false, List, [], Option, Some, None, map, filter, get_or, if◌then◌else◌, nat_eq}
use Rattle.std.specs.List.{flat_map}
use Rattle.std.specs.Str.{bytes_eq}
use Rattle.seg_common.specs.declared.column_type.ColumnType.{ColumnType}
use Rattle.seg_model.specs.Columns.{ColumnValue, type_place}
use Rattle.seg_column_format.specs.ModelColumns.{column_rows}
use Rattle.seg_column_file.specs.RowOrders.{Place}
use Rattle.seg_column_merge_parts.specs.Tables.{PlacedColumn, Row, kind_of}

-- the values of a row, where it is one of the column's file
abbrev pub row_cell : Place → Option PlacedColumn → List ColumnValue
row_cell p None = []
row_cell p (Some c) = if nat_eq c.file p.0 then get_or (column_rows (c.stored).column) p.1 [] else []

-- those of several columns
abbrev pub cell : List Row → Place → List ColumnValue
cell rows p = flat_map (λ r. row_cell p r.column) rows

abbrev pub cells : List Row → List Place → List (List ColumnValue)
cells rows places = map (cell rows) places

-- whether a row is of a path and a kind
abbrev pub is_of : List ℕ → ℕ → Row → Bool
is_of path kind r = bytes_eq path r.path && nat_eq (kind_of r.type) kind

-- the rows of one
abbrev pub rows_with : List ℕ → ℕ → List Row → List Row
rows_with path kind rows = filter (is_of path kind) rows

-- a row that is required, with this type
abbrev pub is_absent : Option PlacedColumn → Bool
is_absent None = true
is_absent (Some c) = false

abbrev pub is_required : ColumnType → Row → Bool
is_required type r = is_absent r.column && nat_eq (type_place type) (type_place r.type)
