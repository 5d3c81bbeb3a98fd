use Rattle.std.proofs.Common.{◌≡◌, ◌≤◌, ◌<◌, ◌+◌, ℕ}
use Rattle.seg_columns.specs.DynamicColumns.{IsColumnOf}
use Rattle.seg_column_file.specs.ColumnFiles.{column_bytes}
use Rattle.seg_column_file.specs.ColumnTable.{code_in, column_start, place_of, type_of_code}
use Rattle.seg_column_file.proofs.columns_check.check_columns.Given as goal

abbrev pub invariant-loop-i : goal.invariant-loop-i
invariant-loop-i l = record {
  at : l.at ≡ place_of l.table l.i;
  start : l.start ≡ column_start l.table l.i;
  within : l.start ≤ l.size;
  rise : (k : ℕ) → k < l.i → column_start l.table k ≤ column_start l.table (k + 1);
  columns : (k : ℕ) → k < l.i
      → IsColumnOf (type_of_code (code_in l.table (place_of l.table k))) l.num_rows (column_bytes l.bytes l.table k);
}
