-- The columns of a file so far, each in its bytes.
use Rattle.std.specs.Prelude.{◌≡◌, ℕ, List, ◌++◌, length, map}
use Rattle.std.specs.List.{AllByRecursion}
use Rattle.seg_column_writer.specs.EncodedColumns.{IsColumnBytes}
use Rattle.seg_column_format.specs.FileBytes.{WrittenColumn, data_bytes, entries_bytes, entry_bytes}
use Rattle.seg_column_writer.specs.NamedColumns.{PathKind, column_in}
use Rattle.seg_column_writer.specs.ColumnRecords.{Recording}
use Rattle.seg_column_writer.specs.TypedColumns.{path_in}
use Rattle.seg_column_writer.specs.declared.typed_column.TypedColumn.{TypedColumn}

-- the bytes of a column, and its entry, were added
pub record AddsEntry (count : ℕ) (names : List PathKind) (columns : List Recording) (t : TypedColumn)
    (old entries new listed : List ℕ) : Type 0 where
  pub bytes : List ℕ
  pub are : IsColumnBytes (column_in columns t.place) t.column_type count bytes
  pub bytes_are : new ≡ old ++ bytes
  pub entry : listed ≡ entries ++ entry_bytes (length new) (path_in names t.place) t.column_type

-- a column with its bytes
pub record FiledColumn : Type 0 where
  pub typed : TypedColumn
  pub bytes : List ℕ

abbrev pub written : List PathKind → FiledColumn → WrittenColumn
written names c = record { path = path_in names c.typed.place; type = c.typed.column_type; bytes = c.bytes }

abbrev pub IsFiled : ℕ → List Recording → FiledColumn → Type 0
IsFiled count columns c = IsColumnBytes (column_in columns c.typed.place) c.typed.column_type count c.bytes

-- the bytes and the entries of these columns
pub record AreFiled (count : ℕ) (names : List PathKind) (columns : List Recording) (typed : List TypedColumn)
    (out entries : List ℕ) : Type 0 where
  pub filed : List FiledColumn
  pub are : map (λ c. c.typed) filed ≡ typed
  pub each : AllByRecursion (IsFiled count columns) filed
  pub bytes_are : out ≡ data_bytes (map (written names) filed)
  pub table : entries ≡ entries_bytes 0 (map (written names) filed)
