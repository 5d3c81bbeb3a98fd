use Rattle.std.proofs.Common.{◌≡◌, ◌++◌, drop}
use Rattle.seg_index_build.specs.MergedIndices.{unfiltered}
use Rattle.seg_index_build.proofs.source_segments.no_filters.Given as goal

-- none so far, with none for what is left, is none for all
abbrev pub invariant-loop-segment : goal.invariant-loop-segment
invariant-loop-segment l = l.filters.items ++ unfiltered (drop l._segment-index l.segments) ≡ unfiltered l.segments
