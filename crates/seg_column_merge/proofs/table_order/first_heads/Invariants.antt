use Rattle.std.proofs.Common.{map, Some}
use Rattle.seg_column_merge.proofs.TableRuns.{AreBegun}
use Rattle.seg_column_merge.proofs.table_order.first_heads.Given as goal

abbrev pub invariant-loop-at : goal.invariant-loop-at
invariant-loop-at l = AreBegun (map Some l.rows) l.at l.heads
