use Rattle.std.proofs.Common.{◌≡◌, ◌≤◌, ◌-◌, ◌++◌, drop}
use Rattle.seg_column_format.specs.ColumnBytes.{ends_from, number_bytes}
use Rattle.seg_column_format.specs.ValuesByRow.{Rise, rows_from}
use Rattle.seg_column_format.specs.declared.row_number.RowNumber.{RowNumber}
use Rattle.seg_column_format.proofs.column_bytes.put_row_ends.Given as goal

-- what is written, with what is left, is all
abbrev pub invariant-loop-value : goal.invariant-loop-value
invariant-loop-value l = record {
  within : l.row ≤ l.num_rows;
  counted : l.end ≡ l.value-index;
  rise : Rise (λ (v : RowNumber). v.row) l.row (drop l.value-index l.values);
  all : l.out.items ++ number_bytes (ends_from l.end
      (rows_from (λ (v : RowNumber). v.row) l.row (l.num_rows - l.row) (drop l.value-index l.values)))
      ≡ l.initial.out.items ++ number_bytes (ends_from 0
      (rows_from (λ (v : RowNumber). v.row) 0 l.num_rows l.values));
}
