use Rattle.std.proofs.Common.{◌≡◌, ◌+◌, replicate, None}
use Rattle.seg_script.proofs.filters.no_filters.Given as goal

abbrev pub invariant-loop-cut : goal.invariant-loop-cut
invariant-loop-cut l = l.filters.items ≡ replicate (l._cut-index + 1) None
