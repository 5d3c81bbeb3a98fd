use Rattle.std.proofs.Common.{◌≡◌, ◌++◌, drop, map}
use Rattle.seg_meta.specs.Metas.{segment_of}
use Rattle.seg_index_build.specs.MergedIndices.{listed_segments}
use Rattle.seg_index_build.proofs.source_segments.push_segments.Given as goal

-- those so far, with those of what is left, are all
abbrev pub invariant-loop-meta : goal.invariant-loop-meta
invariant-loop-meta l =
    l.segments.items ++ map (segment_of l.index.schema) (drop l.meta-index l.meta-items)
    ≡ l.fn.segments.items ++ listed_segments l.index
