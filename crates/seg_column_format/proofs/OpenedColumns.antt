-- Whether bytes hold the columns of a schema, by the test of their columns.
use Rattle.std.proofs.Common.{◌≡◌, ℕ, Bool, true, false, List, sym, ap, ◌∙◌}
use Rattle.seg_column_file.specs.ColumnFiles.{ColumnFile, IsColumnFile, column_file_of, columns_from, row_count}
use Rattle.seg_model.specs.Fields.{Schema}
use Rattle.seg_column_format.specs.SchemaColumns.{HoldColumns, suits}
use Rattle.seg_column_format.proofs.SchemaTests.{suited, unsuited}

module _ (schema : Schema) (documents : ℕ) (bytes : List ℕ) (file : ColumnFile) (is_file : IsColumnFile bytes)
    (read : file ≡ column_file_of bytes) (counted : file.rows ≡ documents) where
  rows_are : row_count bytes ≡ documents
  rows_are = ap (λ (f : ColumnFile). f.rows) (sym read) ∙ counted

  told : (b : Bool) → b ≡ suits schema file.columns → suits schema (columns_from bytes 0) ≡ b
  told b is = ap (λ (f : ColumnFile). suits schema f.columns) (sym read) ∙ sym is

  pub hold : true ≡ suits schema file.columns → HoldColumns schema documents bytes
  hold is = record {
    file = is_file;
    rows = rows_are;
    suit = suited schema documents bytes is_file rows_are (told true is);
  }

  pub hold_not : false ≡ suits schema file.columns → HoldColumns schema documents bytes → ⊥
  hold_not is h = unsuited schema documents bytes is_file rows_are h.suit (told false is)
