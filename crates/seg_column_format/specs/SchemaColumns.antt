-- Which columns a segment has by its schema: each that is declared, and others of JSON fields alone.
use Rattle.std.specs.Prelude.{◌≡◌, ℕ, ◌<◌, ◌&&◌, ◌||◌, not, Bool, true, false, List, [], ◌∷◌, length, get_or, Some, is_some, nat_eq}
use Rattle.std.specs.FinMap.{get}
use Rattle.std.specs.List.{list_all, list_any, slice_get}
use Rattle.std.specs.Str.{bytes_eq}
use Rattle.seg_common.specs.declared.column_type.ColumnType.{ColumnType}
use Rattle.seg_common.specs.declared.column_type.ColumnType.TheVariants.{I64, U64}
use Rattle.seg_values.specs.declared.schema.FieldEntry.{FieldEntry}
use Rattle.seg_columns.specs.DynamicColumns.{type_of}
use Rattle.seg_column_file.specs.ColumnFiles.{IsColumnFile, NamedColumn, column_file_of, is_below, row_count}
use Rattle.seg_column_format.specs.ModelColumns.{column_rows, columns_in}
use Rattle.seg_model.specs.Columns.{ColumnKey, ColumnValue, Columns, declared_columns, declared_type, is_declared, is_filled}
pub use Rattle.seg_model.specs.Columns.{is_type}
use Rattle.seg_model.specs.Fields.{Schema, is_json}
use Rattle.seg_model.specs.Shape.{AreRowsOf, IsFreeColumn, is_json_type}

-- ---- what contents of full shape have as columns

-- columns of this many documents, as contents of full shape have them
pub record SuitColumns (schema : Schema) (documents : ℕ) (columns : Columns) : Type 0 where
  pub declared : (key : ColumnKey) → is_declared (declared_columns schema) key ≡ true → is_some (get columns key) ≡ true
  pub free : (key : ColumnKey) (rows : List (List ColumnValue)) → get columns key ≡ Some rows
      → is_declared (declared_columns schema) key ≡ false → IsFreeColumn schema key rows
  pub rows : (key : ColumnKey) (rows : List (List ColumnValue)) → get columns key ≡ Some rows
      → (length rows ≡ documents) × AreRowsOf key.type rows
  pub one_number_type : (path : List ℕ) → is_some (get columns (record { path = path; type = I64 })) ≡ true
      → is_some (get columns (record { path = path; type = U64 })) ≡ true
      → (is_declared (declared_columns schema) (record { path = path; type = I64 }) ≡ true)
      × (is_declared (declared_columns schema) (record { path = path; type = U64 }) ≡ true)

-- bytes are a file of this many rows, which has these columns
pub record HaveColumns (documents : ℕ) (bytes : List ℕ) (columns : Columns) : Type 0 where
  pub file : IsColumnFile bytes
  pub rows : row_count bytes ≡ documents
  pub are : columns_in (column_file_of bytes) ≡ columns

-- bytes are a file of columns of this many documents, and its columns are such
pub record HoldColumns (schema : Schema) (documents : ℕ) (bytes : List ℕ) : Type 0 where
  pub file : IsColumnFile bytes
  pub rows : row_count bytes ≡ documents
  pub suit : SuitColumns schema documents (columns_in (column_file_of bytes))

-- ---- the columns of a file, one by one

-- whether a path is that of a field, or below it
abbrev pub is_path_of : List ℕ → FieldEntry → Bool
is_path_of path e = bytes_eq e.name path || is_below e.name path

-- whether a field is a fast JSON field
abbrev pub is_fast_json : FieldEntry → Bool
is_fast_json e = e.fast && is_json e.kind

abbrev pub is_json_path : Schema → List ℕ → Bool
is_json_path schema path = list_any (λ e. is_fast_json e && is_path_of path e) schema

-- whether a row, or a column that is recorded, has a value
abbrev pub has_values : {X : Type 0} → List X → Bool
has_values [] = false
has_values (x ∷ xs) = true

-- whether a column has a value
abbrev pub has_value : NamedColumn → Bool
has_value c = list_any is_filled (column_rows (c.stored).column)

-- whether a column may be there that isn't declared
abbrev pub is_free : Schema → NamedColumn → Bool
is_free schema c = is_json_type (type_of (c.stored).column) && (is_json_path schema c.path && has_value c)

-- whether a field declares the column of a path and a type
abbrev pub declares : List ℕ → ColumnType → FieldEntry → Bool
declares path type e = bytes_eq e.name path && (e.fast && is_type type (declared_type e.kind))

-- the field at a place does, and no other
pub record DeclaresAlone (schema : Schema) (path : List ℕ) (type : ColumnType) (field : ℕ) : Type 0 where
  pub there : field < length schema
  pub alone : (i : ℕ) (e : FieldEntry) → slice_get schema i ≡ Some e → declares path type e ≡ nat_eq i field

-- whether some field does
abbrev pub is_declared_by : Schema → List ℕ → ColumnType → Bool
is_declared_by schema path type = list_any (declares path type) schema

abbrev pub is_suited : Schema → NamedColumn → Bool
is_suited schema c = is_declared_by schema c.path (type_of (c.stored).column) || is_free schema c

-- whether a field's own column is among some
abbrev pub has_column : List NamedColumn → FieldEntry → Bool
has_column columns e = list_any (λ c. declares c.path (type_of (c.stored).column) e) columns

-- whether a field declares a column
abbrev pub has_declared : FieldEntry → Bool
has_declared e = e.fast && is_some (declared_type e.kind)

-- whether the columns of a file suit a schema
abbrev pub suits : Schema → List NamedColumn → Bool
suits schema columns =
    list_all (is_suited schema) columns && list_all (λ e. not (has_declared e) || has_column columns e) schema

-- the field that declares a column, if there is one, is marked too
pub record AreMarkedToo (schema : Schema) (path : List ℕ) (type : ColumnType) (old new : List Bool) : Type 0 where
  pub as_many : length new ≡ length old
  pub marks : (i : ℕ) (e : FieldEntry) → slice_get schema i ≡ Some e
      → get_or new i false ≡ (declares path type e || get_or old i false)

-- whether each field that declares a column is marked
abbrev pub all_marked : Schema → List Bool → Bool
all_marked [] marks = true
all_marked (e ∷ schema) [] = false
all_marked (e ∷ schema) (mark ∷ marks) = (not (has_declared e) || mark) && all_marked schema marks
