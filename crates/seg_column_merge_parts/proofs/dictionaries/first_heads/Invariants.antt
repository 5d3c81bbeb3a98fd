use Rattle.seg_column_merge_parts.proofs.HeadSteps.{AreBegun}
use Rattle.seg_column_merge_parts.proofs.dictionaries.first_heads.Given as goal

abbrev pub invariant-loop-place : goal.invariant-loop-place
invariant-loop-place l = AreBegun l.columns l.place l.heads
