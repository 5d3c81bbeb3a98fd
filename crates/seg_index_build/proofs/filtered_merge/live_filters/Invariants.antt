use Rattle.std.proofs.Common.{◌≡◌, ◌++◌, drop, length}
use Rattle.seg_index_build.specs.MergedSegments.{kept_filters}
use Rattle.seg_index_build.proofs.filtered_merge.live_filters.Given as goal

-- the filters so far, with those of what is left, are all
abbrev pub invariant-loop-segment : goal.invariant-loop-segment
invariant-loop-segment l =
    l.kept.items ++ kept_filters (drop (length l.yielded) l.segments) (drop (length l.yielded) l.filters)
    ≡ kept_filters l.segments l.filters
