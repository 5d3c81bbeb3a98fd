-- The columns of segments, of which some documents are alive.
use Rattle.std.specs.Prelude.{◌≡◌, ℕ, ◌+◌, List, [], ◌∷◌, ◌++◌, map, length, if◌then◌else◌}
use Rattle.std.specs.List.{range_with_len}
use Rattle.seg_common.specs.Marks.{kept}
use Rattle.seg_column_file.specs.ColumnFiles.{ColumnFile, IsOfFile}
use Rattle.seg_column_file.specs.RowOrders.{Place}
use Rattle.seg_column_format.specs.ModelColumns.{columns_in}
use Rattle.seg_values.specs.declared.schema.FieldEntry.{FieldEntry}
use Rattle.seg_model.specs.Columns.{ColumnKey, column_named, declared_type}
use Rattle.seg_model.specs.Fields.{Schema}
use Rattle.seg_model.specs.Join.{Part}
use Rattle.seg_column_format.specs.SchemaColumns.{SuitColumns}

-- the key of the column that a field declares, if it does
abbrev pub entry_keys : FieldEntry → List ColumnKey
entry_keys e = if e.fast then column_named e.name (declared_type e.kind) else []

-- the rows that are alive, one segment after another; the first has the number `file`
abbrev pub live_rows : ℕ → List Part → List Place
live_rows file [] = []
live_rows file (p ∷ parts) =
    map (λ row. (file, row)) (kept p.alive (range_with_len 0 (length p.alive))) ++ live_rows (file + 1) parts

-- a segment has the columns of a file, which suit its schema
pub record HasColumnsOf (schema : Schema) (file : ColumnFile) (p : Part) : Type 0 where
  pub of_file : IsOfFile file
  pub columns : p.contents.columns ≡ columns_in file
  pub documents : p.contents.documents ≡ file.rows
  pub marked : length p.alive ≡ file.rows
  pub suit : SuitColumns schema file.rows (columns_in file)

-- each segment has those of its own file
abbrev pub HaveColumnsOf : Schema → List ColumnFile → List Part → Type 0
HaveColumnsOf schema [] [] = Unit {0}
HaveColumnsOf schema [] (p ∷ parts) = ⊥
HaveColumnsOf schema (f ∷ files) [] = ⊥
HaveColumnsOf schema (f ∷ files) (p ∷ parts) = HasColumnsOf schema f p × HaveColumnsOf schema files parts
