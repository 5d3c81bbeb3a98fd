use Rattle.std.proofs.Common.{◌≡◌, ◌++◌, drop}
use Rattle.seg_batches.specs.WrittenSegments.{all_listed}
use Rattle.seg_batches.proofs.listed_segments.list_segments.Given as goal

-- those that are listed, with those that are left, are all
abbrev pub invariant-loop-segment : goal.invariant-loop-segment
invariant-loop-segment l =
    l.metas ++ all_listed l.stamp (drop l.segment-index l.segments) ≡ all_listed l.stamp l.segments
