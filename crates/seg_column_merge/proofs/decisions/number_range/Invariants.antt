use Rattle.std.proofs.Common.{◌≡◌, drop}
use Rattle.seg_column_merge.specs.Decisions.{range_of}
use Rattle.seg_column_merge_parts.specs.NumberRanges.{no_numbers}
use Rattle.seg_column_merge.proofs.decisions.number_range.Given as goal

abbrev pub invariant-loop-row : goal.invariant-loop-row
invariant-loop-row l = range_of l.kept l.range (drop l.row-index l.rows) ≡ range_of l.kept no_numbers l.rows
