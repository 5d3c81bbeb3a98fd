use Rattle.std.proofs.Common.{◌≡◌, ◌++◌, map, Some}
use Rattle.seg_column_merge.proofs.table_order.slots_of.Given as goal

abbrev pub invariant-loop-row : goal.invariant-loop-row
invariant-loop-row l = l.slots.items ++ map Some l.row-iterator.rest.items ≡ map Some l.fn.rows.items
