use Rattle.std.proofs.Common.{◌≡◌, ◌++◌, drop}
use Rattle.seg_index_build.specs.MergedIndices.{all_segments}
use Rattle.seg_index_build.proofs.source_segments.all_segments.Given as goal

-- those so far, with those of what is left, are all
abbrev pub invariant-loop-index : goal.invariant-loop-index
invariant-loop-index l = l.segments.items ++ all_segments (drop l.index-index l.indices) ≡ all_segments l.indices
