-- A file of columns as the columns of documents.
use Rattle.std.specs.Prelude.{ℕ, pos, List, [], map, get_or}
use Rattle.std.specs.FinMap.{from_entries}
use Rattle.std.specs.Net.Addr.{ipv6_octets}
use Rattle.seg_model.specs.Columns.{ColumnKey, ColumnValue, Columns, number, bytes_value, text_value, boolean_value, ip_value, date_value}
use Rattle.seg_columns.specs.declared.dynamic_column.DynamicColumn.{DynamicColumn}
use Rattle.seg_columns.specs.declared.dynamic_column.DynamicColumn.TheVariants as columns
use Rattle.seg_columns.specs.DynamicColumns.{type_of}
use Rattle.seg_column_file.specs.ColumnFiles.{ColumnFile, NamedColumn}

-- the values that ordinals are the places of
abbrev pub terms_at : (List ℕ → ColumnValue) → List (List ℕ) → List (List ℕ) → List (List ColumnValue)
terms_at value terms ords = map (map (λ ord. value (get_or terms ord []))) ords

-- the values of each row of a column
abbrev pub column_rows : DynamicColumn → List (List ColumnValue)
column_rows (columns.I64 rows) = map (map number) rows
column_rows (columns.U64 rows) = map (map (λ n. number (pos n))) rows
column_rows (columns.Bytes column) = terms_at bytes_value column.terms column.ords
column_rows (columns.Str column) = terms_at text_value column.terms column.ords
column_rows (columns.Bool rows) = map (map boolean_value) rows
column_rows (columns.IpAddr rows) = map (map (λ address. ip_value (ipv6_octets address))) rows
column_rows (columns.DateTime rows) = map (map date_value) rows

-- where a column of a file is
abbrev pub column_key : NamedColumn → ColumnKey
column_key c = record { path = c.path; type = type_of c.stored.column }

-- the columns of a file, each by its path and type
abbrev pub columns_in : ColumnFile → Columns
columns_in file = from_entries (map (λ c. (column_key c, column_rows c.stored.column)) file.columns)
