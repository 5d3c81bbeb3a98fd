-- The columns that a schema declares, before any document.
use Rattle.std.specs.Prelude.{List, [], ◌∷◌, Option, None, Some, if◌then◌else◌}
use Rattle.std.specs.List.{flat_map}
use Rattle.seg_common.specs.declared.column_type.ColumnType.{ColumnType}
use Rattle.seg_values.specs.declared.schema.FieldEntry.{FieldEntry}
use Rattle.seg_model.specs.Columns.{declared_type}
use Rattle.seg_model.specs.Fields.{Schema, is_facet}
use Rattle.seg_column_writer.specs.ValueKinds.{kind_of}
use Rattle.seg_column_writer.specs.ColumnRecords.{ColumnRecord, is_named}
use Rattle.seg_column_writer.specs.RowOrderedColumns.{Declared}

-- the column of a field without a value; the values of a row of facets are put in order
abbrev pub column_with : FieldEntry → Option ColumnType → List ColumnRecord
column_with entry None = []
column_with entry (Some type) = record {
  path = entry.name;
  recording = record { kind = kind_of type; declared = Some type; sorts = is_facet entry.kind; values = [] };
} ∷ []

abbrev pub column_of : FieldEntry → List ColumnRecord
column_of entry = if entry.fast then column_with entry (declared_type entry.kind) else []

abbrev pub first_columns : Schema → List ColumnRecord
first_columns schema = flat_map column_of schema

-- what is declared of a path and a kind among columns
abbrev pub declared_among : List ColumnRecord → Declared
declared_among [] path kind = None
declared_among (c ∷ cs) path kind = if is_named path kind c then c.recording.declared else declared_among cs path kind

abbrev pub declared_by : Schema → Declared
declared_by schema = declared_among (first_columns schema)
