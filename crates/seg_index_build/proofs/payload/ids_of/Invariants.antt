use Rattle.std.proofs.Common.{◌≡◌, ◌++◌, drop, map}
use Rattle.seg_index_build.proofs.payload.ids_of.Given as goal

-- the ids so far, with those that are left, are all
abbrev pub invariant-loop-segment : goal.invariant-loop-segment
invariant-loop-segment l =
    l.ids.items ++ map (λ s. s.meta.id) (drop l.segment-index l.segments) ≡ map (λ s. s.meta.id) l.segments
