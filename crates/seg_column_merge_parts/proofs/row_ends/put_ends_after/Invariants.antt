use Rattle.std.proofs.Common.{◌≡◌, ◌+◌, ◌<◌, ◌^◌, ◌≤◌, ◌++◌}
use Rattle.seg_columns.specs.Ends.{start_at}
use Rattle.seg_column_format.specs.ColumnBytes.{number_bytes}
use Rattle.seg_column_merge_parts.proofs.RowEnds.{ends_after}
use Rattle.seg_column_merge_parts.proofs.row_ends.put_ends_after.Given as goal

abbrev pub invariant-loop-row : goal.invariant-loop-row
invariant-loop-row l = record {
  within : l.row ≤ l.rows;
  bytes : l.out.items ≡ l.fn.out.items ++ number_bytes (ends_after l.before l.ends 0 l.row);
  end : l.end ≡ l.before + start_at l.ends l.row;
  fits : l.end < 2 ^ 64;
}
