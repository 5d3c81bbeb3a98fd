-- What a writer of fast fields has.
use Rattle.std.specs.Prelude.{◌≡◌, ◌⊎◌, ℕ, List, true, None, Some, Option, length}
use Rattle.seg_columns.specs.declared.error.ColumnError.{ColumnError}
use Rattle.seg_columns.specs.declared.error.ColumnError.TheVariants.{Mixed}
use Rattle.seg_values.specs.declared.error.TantivyError.{TantivyError}
use Rattle.seg_values.specs.declared.error.TantivyError.TheVariants.{InvalidArgument, OutOfMemory}
use Rattle.seg_values.specs.declared.error.ArgumentCause.TheVariants.{Numbers}
use Rattle.seg_model.specs.Columns.{ColumnValue, Columns, FastValue}
use Rattle.seg_model.specs.Fields.{Schema}
use Rattle.seg_column_writer.specs.DocumentRows.{AreArranged, kind_of_value, with_rows}
use Rattle.seg_column_writer.specs.ColumnRecords.{Accepts, ColumnRecord}
use Rattle.seg_column_writer.specs.RowOrderedColumns.{AreBelow, AreThere, has_column}
use Rattle.seg_fastfield.specs.DeclaredColumns.{declared_by, first_columns}

-- a schema, the columns so far, and how many rows they have
pub record FastWriting : Type 0 where
  pub schema : Schema
  pub columns : List ColumnRecord
  pub rows : ℕ

-- the columns have at each key what these documents record, document by document
pub record Holds (documents : List (List FastValue)) (w : FastWriting) : Type 0 where
  pub raws : List (List FastValue)
  pub columns_are : w.columns ≡ with_rows 0 raws (first_columns w.schema)
  pub rows_are : w.rows ≡ length documents
  pub arranged : AreArranged (first_columns w.schema) raws documents

-- ---- what holds of the columns at any time

-- no value is of a row beyond this many, declared types are those of the schema, and its columns are at their places
pub record AreUnderWay (schema : Schema) (rows : ℕ) (columns : List ColumnRecord) : Type 0 where
  pub below : AreBelow (declared_by schema) rows columns
  pub there : AreThere (first_columns schema) columns

-- a value of a path may come: its column is there, or none is declared
pub record MayCome (schema : Schema) (path : List ℕ) (value : ColumnValue) : Type 0 where
  pub comes : (has_column path (kind_of_value value) (first_columns schema) ≡ true)
      ⊎ (declared_by schema path (kind_of_value value) ≡ None)
  pub accepted : Accepts (declared_by schema path (kind_of_value value)) value

-- ---- why no file is made

abbrev pub refusal_of : Option Columns → TantivyError
refusal_of None = InvalidArgument Numbers
refusal_of (Some columns) = OutOfMemory

abbrev pub error_of : ColumnError → TantivyError
error_of Mixed = InvalidArgument Numbers
error_of _ = OutOfMemory
