use Rattle.std.proofs.Common.{◌≡◌, ◌≤◌, ◌++◌}
use Rattle.seg_column_merge_parts.specs.SourceRows.{first_rows}
use Rattle.seg_column_merge_parts.proofs.FirstRows.{row_bytes}
use Rattle.seg_column_merge_parts.proofs.source.Source.put_each.Given as goal

abbrev pub invariant-loop-row : goal.invariant-loop-row
invariant-loop-row l = record {
  within : l.row ≤ l.rows;
  all : l.out.items ≡ l.fn.out.items ++ row_bytes (first_rows l.self l.row);
}
