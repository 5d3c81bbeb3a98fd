-- A file while its columns are put, and the columns of a group of rows.
use Rattle.std.specs.Prelude.{◌≡◌, ℕ, ◌+◌, ◌++◌, All, true, List, [], ◌∷◌, Option, Some, None, length, map}
use Rattle.seg_common.specs.declared.column_type.ColumnType.{ColumnType}
use Rattle.seg_model.specs.Columns.{ColumnValue}
use Rattle.seg_columns.specs.DynamicColumns.{IsColumnOf, column_of}
use Rattle.seg_column_format.specs.FileBytes.{WrittenColumn, data_bytes, entries_bytes, entry_bytes}
use Rattle.seg_column_format.specs.ModelColumns.{column_rows}
use Rattle.seg_column_merge.specs.Cells.{cells, is_absent}
use Rattle.seg_column_merge.specs.Decisions.{AreDecidable, merged_type}
use Rattle.seg_column_merge.specs.MergedBytes.{places_of}
use Rattle.seg_column_merge_parts.specs.Tables.{column_in, row_of}
use Rattle.seg_column_merge.specs.declared.merge.Merge.{Merge}
use Rattle.seg_column_merge.specs.declared.merged_file.MergedFile.{MergedFile}
use Rattle.seg_column_merge_parts.specs.declared.tables.TableRow.{TableRow}

-- a file has these columns so far
pub record IsFileOf (columns : List WrittenColumn) (file : MergedFile) : Type 0 where
  pub bytes : file.bytes.items ≡ data_bytes columns
  pub entries : file.entries.items ≡ entries_bytes 0 columns
  pub count : file.count ≡ length columns

-- the entry of the last column was added
pub record AddsEntry (path : List ℕ) (type : ColumnType) (old new : MergedFile) : Type 0 where
  pub bytes : new.bytes.items ≡ old.bytes.items
  pub entries : new.entries.items ≡ old.entries.items ++ entry_bytes (length old.bytes.items) path type
  pub count : new.count ≡ old.count + 1

-- ---- the column of a group

-- rows with one key, which agree with what is required
pub record IsColumnGroup (merge : Merge) (rows : List TableRow) : Type 0 where
  pub decidable : AreDecidable merge.counts.now merge.kept.now rows
  pub agree : (r : TableRow) (rest : List TableRow) → rows ≡ r ∷ rest → is_absent (column_in r.column) ≡ true
      → All (λ s. s.column_type ≡ r.column_type) rows

abbrev pub values_of : Merge → List TableRow → List (List ColumnValue)
values_of merge rows = cells (map row_of rows) (places_of merge)

-- a column of this type has the values of a group, under a path
pub record IsMergedColumn (path : List ℕ) (type : ColumnType) (values : List (List ColumnValue)) (rows : ℕ)
    (c : WrittenColumn) : Type 0 where
  pub path_is : c.path ≡ path
  pub type_is : c.type ≡ type
  pub column : IsColumnOf type rows c.bytes
  pub read : column_rows (column_of type rows c.bytes) ≡ values

-- the columns of a group: one or none
abbrev pub AreGroupColumns : List ℕ → Option ColumnType → List (List ColumnValue) → ℕ → List WrittenColumn → Type 0
AreGroupColumns path None values rows [] = Unit {0}
AreGroupColumns path None values rows (c ∷ cs) = ⊥
AreGroupColumns path (Some type) values rows [] = ⊥
AreGroupColumns path (Some type) values rows (c ∷ []) = IsMergedColumn path type values rows c
AreGroupColumns path (Some type) values rows (c ∷ d ∷ cs) = ⊥

-- a group was put after other columns
pub record AddsGroup (merge : Merge) (path : List ℕ) (rows : List TableRow) (columns : List WrittenColumn)
    (file : MergedFile) : Type 0 where
  pub type : Option ColumnType
  pub decided : merged_type (map row_of rows) (values_of merge rows) ≡ Some type
  pub added : List WrittenColumn
  pub are : AreGroupColumns path type (values_of merge rows) (length (places_of merge)) added
  pub file_is : IsFileOf (columns ++ added) file
