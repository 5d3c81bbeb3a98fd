-- The numbers of a file that are kept beside its bytes.
use Rattle.std.specs.Prelude.{◌≡◌, ℕ, List}
use Rattle.seg_column_file.specs.declared.footer.Footer.{Footer}
use Rattle.seg_column_file.specs.ColumnFiles.{column_count, data_length, row_count}

pub record IsFooterOf (bytes : List ℕ) (footer : Footer) : Type 0 where
  pub rows : footer.num_rows ≡ row_count bytes
  pub columns : footer.num_columns ≡ column_count bytes
  pub size : footer.size ≡ data_length bytes
