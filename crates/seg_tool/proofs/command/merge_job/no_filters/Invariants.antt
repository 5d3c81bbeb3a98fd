use Rattle.std.proofs.Common.{◌≡◌, ◌++◌, None, drop, map}
use Rattle.seg_tool.proofs.command.merge_job.no_filters.Given as goal

abbrev pub invariant-loop-segment : goal.invariant-loop-segment
invariant-loop-segment l = l.filters.items ++ map (λ _. None) (drop l._segment-index l.segments) ≡ map (λ _. None) l.segments
