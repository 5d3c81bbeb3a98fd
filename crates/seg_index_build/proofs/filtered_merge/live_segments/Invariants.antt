use Rattle.std.proofs.Common.{◌≡◌, ◌++◌, drop}
use Rattle.std.specs.List.{filter}
use Rattle.seg_index_build.specs.MergedSegments.{is_live}
use Rattle.seg_index_build.proofs.filtered_merge.live_segments.Given as goal

-- the live ones so far, with those of what is left, are all
abbrev pub invariant-loop-segment : goal.invariant-loop-segment
invariant-loop-segment l =
    l.live.items ++ filter (λ s. is_live s.meta) (drop l.segment-index l.segments) ≡ filter (λ s. is_live s.meta) l.segments
