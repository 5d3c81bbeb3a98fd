-- The rows of a table have the types of their columns, and those of the sorted one.
use Rattle.std.proofs.Common.{◌≡◌, ℕ, ◌+◌, List, [], ◌∷◌, map, Option, Some, None, Result, Ok, Err, refl, sym, subst}
use Rattle.std.specs.Prelude.{All, IfOk, IsUtf8, String, Vec}
use Rattle.std.specs.declared.alloc.AllocError.{AllocError}
use Rattle.std.specs.declared.alloc.Global.{Global}
use Rattle.std.specs.List.{AllByRecursion}
use Rattle.std.specs.List.Sorted.{IsPermutation, IsSortedByKey, IsStableByKey}
use Rattle.std.proofs.lemmas.List.Elements.{All-from_recursion}
use Rattle.std.proofs.lemmas.List.Sorted.{All-permutation}
use Rattle.seg_common.proofs.Lists.{all_both}
use Rattle.seg_common.specs.declared.column_type.ColumnType.{ColumnType}
use Rattle.seg_columns.specs.DynamicColumns.{type_of}
use Rattle.seg_column_file.specs.ColumnFiles.{ColumnFile, IsOfFile, NamedColumn}
use Rattle.seg_column_merge.specs.MergedBytes.{HasType}
use Rattle.seg_column_merge.specs.MergedGroups.{IsTableOf}
use Rattle.seg_column_merge_parts.specs.Tables.{PlacedColumn, Row, all_rows, column_in, file_row, file_rows, required_row, row_of, table_key, table_key_cmp}
use Rattle.seg_column_merge_parts.specs.declared.tables.FileColumn.{FileColumn}
use Rattle.seg_column_merge_parts.specs.declared.tables.TableRow.{TableRow}

abbrev IsTyped : ColumnType → Option PlacedColumn → Type 0
IsTyped type None = Unit {0}
IsTyped type (Some c) = type_of (c.stored).column ≡ type

abbrev IsTypedRow : Row → Type 0
IsTypedRow r = IsTyped r.type r.column

typed_required : (required : List (String Global × ColumnType)) → AllByRecursion IsTypedRow (map required_row required)
typed_required [] = tt
typed_required (r ∷ rs) = (tt, typed_required rs)

typed_file : (file : ℕ) (columns : List NamedColumn) → AllByRecursion IsTypedRow (map (file_row file) columns)
typed_file file [] = tt
typed_file file (c ∷ cs) = (refl, typed_file file cs)

typed_files : (first : ℕ) (files : List ColumnFile) → AllByRecursion IsTypedRow (file_rows first files)
typed_files first [] = tt
typed_files first (f ∷ fs) =
    all_both IsTypedRow (map (file_row first) f.columns) (file_rows (first + 1) fs) (typed_file first f.columns)
    (typed_files (first + 1) fs)

of_row : (type : ColumnType) (o : Option FileColumn) → IsTyped type (column_in o) → HasType type o
of_row type None is = tt
of_row type (Some c) is = is

of_rows : (rows : List TableRow) → AllByRecursion IsTypedRow (map row_of rows)
    → AllByRecursion (λ r. HasType r.column_type r.column) rows
of_rows [] all = tt
of_rows (r ∷ rs) all = (of_row r.column_type r.column all.0, of_rows rs all.1)

rows_typed : (rows : List TableRow) (required : List (String Global × ColumnType)) (files : List ColumnFile)
    → map row_of rows ≡ all_rows required files → All (λ r. HasType r.column_type r.column) rows
rows_typed rows required files is =
    All-from_recursion (λ (r : TableRow). HasType r.column_type r.column) rows
    (of_rows rows (subst (AllByRecursion IsTypedRow) (sym is)
    (all_both IsTypedRow (map required_row required) (file_rows 0 files) (typed_required required)
    (typed_files 0 files))))

-- the table of rows in the order of their keys
pub table_of : (required : List (String Global × ColumnType)) (files : List ColumnFile) (old : List TableRow)
    → map row_of old ≡ all_rows required files → All (λ r. IsUtf8 r.path.now) old → AllByRecursion IsOfFile files
    → (r : Result (Vec TableRow Global) AllocError)
    → IfOk r (λ table. IsSortedByKey table_key table_key_cmp table.items)
    → IfOk r (λ table. IsStableByKey table_key table_key_cmp old table.items)
    → IfOk r (λ table. IsPermutation old table.items)
    → IfOk r (λ table. IsTableOf required files table.items)
table_of required files old rows utf8 read (Ok table) sorted stable moved = record {
  old = old;
  rows = rows;
  sorted = sorted;
  stable = stable;
  permutation = moved;
  read = read;
  typed = All-permutation (λ (r : TableRow). HasType r.column_type r.column) old table.items moved
      (rows_typed old required files rows);
  utf8 = All-permutation (λ (r : TableRow). IsUtf8 r.path.now) old table.items moved utf8;
}
table_of required files old rows utf8 read (Err e) sorted stable moved = tt
