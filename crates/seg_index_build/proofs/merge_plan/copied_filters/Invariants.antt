use Rattle.std.proofs.Common.{◌≡◌, ◌++◌, drop}
use Rattle.seg_index_build.proofs.merge_plan.copied_filters.Given as goal

-- those so far, with those that are left, are all
abbrev pub invariant-loop-filter : goal.invariant-loop-filter
invariant-loop-filter l = l.copy.items ++ drop l.filter-index l.filters ≡ l.filters
