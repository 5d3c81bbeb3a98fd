use Rattle.std.proofs.Common.{◌≡◌, ◌-◌, length}
use Rattle.seg_column_file.specs.RowOrders.{stacked_from}
use Rattle.seg_column_file.proofs.row_order.next_stacked.Given as goal

abbrev pub invariant-loop-file : goal.invariant-loop-file
invariant-loop-file l = stacked_from l.counts l.fn.file l.fn.row ≡ stacked_from l.counts l.file l.row

abbrev pub decreases-loop-file : goal.decreases-loop-file
decreases-loop-file l = length l.counts - l.file
