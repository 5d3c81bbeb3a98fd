use Rattle.std.proofs.Common.{◌≡◌, ◌+◌, length}
use Rattle.seg_column_merge.proofs.sorted_merge.num_rows.Given as goal

abbrev pub invariant-loop-row : goal.invariant-loop-row
invariant-loop-row l = record {
  can : (goal.iterator-loop-row).can_next l._row-iterator;
  finite : (goal.iterator-loop-row).is_finite l._row-iterator;
  all : l.count + length l._row-iterator ≡ length l.fn.rows;
}
