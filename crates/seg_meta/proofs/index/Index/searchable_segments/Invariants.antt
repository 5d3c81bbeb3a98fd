use Rattle.std.proofs.Common.{◌≡◌, ◌++◌, map, drop}
use Rattle.seg_meta.specs.Metas.{segment_of}
use Rattle.seg_meta.proofs.index.Index.searchable_segments.Given as goal

abbrev pub invariant-loop-meta : goal.invariant-loop-meta
invariant-loop-meta l = l.segments.items ++ map (segment_of l.self.schema) (drop l.meta-index l.meta-items) ≡ map (segment_of l.self.schema) l.self.segments
