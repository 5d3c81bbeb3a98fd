use Rattle.std.proofs.Common.{◌≡◌, drop}
use Rattle.seg_merger.specs.Merger.{all_fit}
use Rattle.seg_merger.proofs.filters.filters_fit.Given as goal

-- those that are left fit exactly where all do
abbrev pub invariant-loop-at : goal.invariant-loop-at
invariant-loop-at l = all_fit (drop l.at l.filters) (drop l.at l.segments) ≡ all_fit l.filters l.segments
