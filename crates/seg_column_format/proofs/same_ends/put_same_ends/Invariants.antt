use Rattle.std.proofs.Common.{◌≡◌, ◌-◌, ◌≤◌, ◌++◌, replicate}
use Rattle.seg_column_format.specs.ColumnBytes.{number_bytes}
use Rattle.seg_column_format.proofs.same_ends.put_same_ends.Given as goal

-- what is written, with what is left, is all
abbrev pub invariant-loop-row : goal.invariant-loop-row
invariant-loop-row l = record {
  within : l._row ≤ l.rows;
  all : l.out.items ++ number_bytes (replicate (l.rows - l._row) l.end)
      ≡ l.fn.out.items ++ number_bytes (replicate l.rows l.end);
}
