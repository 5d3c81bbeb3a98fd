use Rattle.std.proofs.Common.{◌≡◌, ◌+◌, ℕ, drop}
use Rattle.std.specs.Prelude.{sum_by}
use Rattle.seg_termdict.specs.MergerHeap.{Front, fronts_from}
use Rattle.seg_termdict.proofs.merger.fronts_of.Given as goal

-- what came, with what is left, is all
abbrev pub invariant-loop-segment : goal.invariant-loop-segment
invariant-loop-segment l = (f : Front → ℕ) → sum_by f l.fronts + sum_by f (fronts_from l.segment (drop l.segment l.heads)) ≡ sum_by f (fronts_from 0 l.heads)
