-- The columns of segments that are joined.
use Rattle.std.specs.Prelude.{◌≡◌, ℕ, List, map, Some}
use Rattle.seg_column_file.specs.ColumnFiles.{IsOfFile}
use Rattle.seg_model.specs.Columns.{Columns}
use Rattle.seg_model.specs.Fields.{Schema}
use Rattle.seg_model.specs.Join.{joined_columns}
use Rattle.seg_column_format.specs.SchemaColumns.{HaveColumns}
use Rattle.seg_open.specs.OpenSegment.{IsMarked, OpenSegment, kept_count, part_of}

-- the columns of a segment are those of a file, with a row for each of its documents, which is alive or not
pub record HasOwnColumns (p : OpenSegment) : Type 0 where
  pub of_file : IsOfFile p.columns
  pub rows : p.columns.rows ≡ p.documents
  pub marked : IsMarked p

-- a file has the columns that segments join to
pub record HasJoinedColumns (schema : Schema) (readers : List OpenSegment) (file : List ℕ) : Type 0 where
  pub columns : Columns
  pub joined : joined_columns schema (map part_of readers) ≡ Some columns
  pub have : HaveColumns (kept_count readers) file columns
