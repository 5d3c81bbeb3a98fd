use Rattle.seg_columns.specs.Columns.{AreKnown}
use Rattle.seg_columns.proofs.column_check.are_known.Given as goal

abbrev pub invariant-loop-place : goal.invariant-loop-place
invariant-loop-place g l = AreKnown g.T.ColumnValue.WIDTH g.T.ColumnValue.decoded l.values l.place
