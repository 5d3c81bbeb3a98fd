use Rattle.seg_column_merge.proofs.MovedRows.{SoFar, measure}
use Rattle.seg_column_merge.proofs.table_order.rows_by_key.Given as goal

abbrev pub invariant-loop-head : goal.invariant-loop-head
invariant-loop-head l = SoFar l.fn.rows.items l.table.items l.slots.items l.heads

abbrev pub decreases-loop-head : goal.decreases-loop-head
decreases-loop-head l = measure l.slots.items l.heads
