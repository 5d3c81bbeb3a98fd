-- A sorted table of columns, merged group by group.
use Rattle.std.specs.Prelude.{◌≡◌, ℕ, ◌<◌, All, Bool, true, false, cond, IsUtf8, List, Option, None, length, map, take, get_or, slice_range, String}
use Rattle.std.specs.declared.alloc.Global.{Global}
use Rattle.std.specs.FinMap.{find}
use Rattle.std.specs.List.{AllByRecursion, list_any}
use Rattle.std.specs.List.Sorted.{IsPermutation, IsSortedByKey, IsStableByKey}
use Rattle.std.specs.Ordering.{is_lt, nat_cmp, ordering_then}
use Rattle.std.specs.Cmp.Lexicographic.{slice_cmp}
use Rattle.seg_common.specs.declared.column_type.ColumnType.{ColumnType}
use Rattle.seg_model.specs.Columns.{ColumnKey, ColumnValue, column_at, column_cmp, is_mixed}
use Rattle.seg_columns.specs.declared.error.ColumnError.{ColumnError}
use Rattle.seg_columns.specs.declared.error.ColumnError.TheVariants.{Mixed, Malformed, OutOfMemory}
use Rattle.seg_column_file.specs.ColumnFiles.{ColumnFile, IsOfFile}
use Rattle.seg_column_format.specs.FileBytes.{AreInOrder, IsWritten, WrittenColumn, read_column}
use Rattle.seg_column_format.specs.ModelColumns.{column_key, column_rows}
use Rattle.seg_column_merge.specs.Cells.{is_of}
use Rattle.seg_column_merge.specs.Decisions.{merged_type}
use Rattle.seg_column_merge.specs.Groups.{IsGroup}
use Rattle.seg_column_merge.specs.MergedBytes.{HasType, places_of}
use Rattle.seg_column_merge.specs.MergedColumns.{required_key, rows_at}
use Rattle.seg_column_merge.specs.MergedFiles.{AddsGroup, IsFileOf, values_of}
pub use Rattle.seg_column_merge.specs.TableOrder.{row_lt}
use Rattle.seg_column_merge_parts.specs.Tables.{all_rows, kind_of, row_of, table_key, table_key_cmp}
use Rattle.seg_column_merge.specs.declared.merge.Merge.{Merge}
use Rattle.seg_column_merge.specs.declared.merged_file.MergedFile.{MergedFile}
use Rattle.seg_column_merge_parts.specs.declared.tables.TableRow.{TableRow}

-- the table of the required columns and those of files that were read, in the order of keys
pub record IsTableOf (required : List (String Global × ColumnType)) (files : List ColumnFile)
    (table : List TableRow) : Type 0 where
  pub old : List TableRow
  pub rows : map row_of old ≡ all_rows required files
  pub sorted : IsSortedByKey table_key table_key_cmp table
  pub stable : IsStableByKey table_key table_key_cmp old table
  pub permutation : IsPermutation old table
  pub read : AllByRecursion IsOfFile files
  pub typed : All (λ r. HasType r.column_type r.column) table
  pub utf8 : All (λ r. IsUtf8 r.path.now) table

-- all rows before a place are below the one there
pub record IsCut (table : List TableRow) (start : ℕ) : Type 0 where
  pub below : (k : ℕ) (d : TableRow) → k < start → start < length table
      → row_lt (get_or table k d) (get_or table start d) ≡ true

-- ---- one group

-- the rows of a group from a place on, and their column, were put
pub record PutsNext (merge : Merge) (table : List TableRow) (start stop : ℕ) (columns : List WrittenColumn)
    (file : MergedFile) : Type 0 where
  pub group : IsGroup table start stop
  pub first : TableRow
  pub is : first ≡ get_or table start first
  pub adds : AddsGroup merge first.path.now (slice_range table start stop) columns file

-- why they weren't
abbrev pub NextFails : Merge → List TableRow → ℕ → ColumnError → Type 0
NextFails merge table start Mixed = (stop : ℕ) × IsGroup table start stop
    × (merged_type (map row_of (slice_range table start stop)) (values_of merge (slice_range table start stop)) ≡ None)
NextFails merge table start Malformed = ⊥
NextFails merge table start OutOfMemory = Unit {0}

-- ---- all groups so far

-- what the model has at a key
abbrev pub found_at : Merge → ColumnKey → Option (List (List ColumnValue))
found_at merge q = column_at (map required_key merge.required.now) q (rows_at merge.columnars.now (places_of merge) q)

abbrev pub mixed_at : Merge → ColumnKey → Bool
mixed_at merge q = is_mixed (map required_key merge.required.now) q (rows_at merge.columnars.now (places_of merge) q)

-- a column as the model has it
abbrev pub entry_in : ℕ → WrittenColumn → ColumnKey × List (List ColumnValue)
entry_in rows c = (column_key (read_column rows c), column_rows ((read_column rows c).stored).column)

abbrev pub entries_in : ℕ → List WrittenColumn → List (ColumnKey × List (List ColumnValue))
entries_in rows columns = map (entry_in rows) columns

-- whether rows have a key's path and kind
abbrev pub covers : List TableRow → ColumnKey → Bool
covers rows q = list_any (λ r. is_of q.path (kind_of q.type) (row_of r)) rows

-- a column's key is below that of a row
abbrev pub IsBelow : TableRow → WrittenColumn → Type 0
IsBelow r c =
    is_lt (ordering_then (slice_cmp nat_cmp c.path r.path.now)
    (nat_cmp (kind_of c.type) (kind_of r.column_type))) ≡ true

-- the groups before a place were put
pub record SoFar (merge : Merge) (table : List TableRow) (start : ℕ) (file : MergedFile) : Type 0 where
  pub columns : List WrittenColumn
  pub is : IsFileOf columns file
  pub each : AllByRecursion (IsWritten (length (places_of merge))) columns
  pub order : AreInOrder columns
  pub below : (d : TableRow) → start < length table → AllByRecursion (IsBelow (get_or table start d)) columns
  pub found : (q : ColumnKey) → find column_cmp q (entries_in (length (places_of merge)) columns)
      ≡ cond (covers (take start table) q) (found_at merge q) None
  pub clear : (q : ColumnKey) → covers (take start table) q ≡ true → mixed_at merge q ≡ false
  pub cut : IsCut table start
