use Rattle.std.proofs.Common.{ℕ, ◌<◌, get_or}
use Rattle.seg_meta.specs.IndexOfFiles.{ListedSegment}
use Rattle.seg_meta.specs.MetaBounds.{SegmentFits}
use Rattle.seg_meta.proofs.meta_law.segments_fit.Given as goal

abbrev pub invariant-loop-segment : goal.invariant-loop-segment
invariant-loop-segment l = (k : ℕ) (d : ListedSegment) → k < l.segment-index → SegmentFits (get_or l.segments k d)
