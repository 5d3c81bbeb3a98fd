use Rattle.std.proofs.Common.{◌≡◌, replicate, None}
use Rattle.seg_merger.proofs.filters.no_filters.Given as goal

abbrev pub invariant-loop-at : goal.invariant-loop-at
invariant-loop-at l = l.filters.items ≡ replicate l._at None
