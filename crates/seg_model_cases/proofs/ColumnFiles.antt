-- Cases of columns and of files of columns, in bytes that were written by hand.
use Rattle.std.proofs.Common.{refl}
use Rattle.seg_common.specs.LittleEndian.{u32_at, u64_at}
use Rattle.seg_columns.specs.Ends.{start_at}
use Rattle.seg_columns.specs.Columns.{value_at, row_of}
use Rattle.seg_columns.specs.Dictionaries.{term_at, terms_of}
use Rattle.seg_column_file.specs.ColumnTable.{next_place, path_in, code_in, end_in, place_of, column_start}
use Rattle.seg_column_file.specs.ColumnFiles.{column_bytes, named_column, columns_from}
use Rattle.seg_model_cases.specs.ColumnFiles.{ColumnFileCases, FoundColumns}

found : FoundColumns
found = record { at_path = refl; above = refl; below = refl; signed_numbers = refl; as_numbers = refl }

pub column_file_cases : ColumnFileCases
unfolding u32_at u64_at start_at value_at row_of term_at terms_of
    next_place path_in code_in end_in place_of column_start column_bytes named_column columns_from
column_file_cases = record {
  rows = refl;
  first = refl;
  below_zero = refl;
  no_truth = refl;
  local = refl;
  texts = refl;
  ordinals = refl;
  no_texts = refl;
  file = refl;
  types_of_a_path = refl;
  found = found;
  apart = refl;
}
