use Rattle.std.proofs.Common.{◌≡◌, ◌-◌, drop, nat_le}
use Rattle.seg_values.specs.Tree.{trees_from, members_from, most_levels, most_member_levels}
use Rattle.seg_check.proofs.levels.+is_within.Given as goal

abbrev pub decreases-is_within : goal.decreases-is_within
decreases-is_within l = l.most

-- what is left decides
abbrev pub invariant-loop-at : goal.invariant-loop-at
invariant-loop-at l = nat_le (most_levels (trees_from (drop l.at l.values))) (l.most - 1) ≡ nat_le (most_levels (trees_from l.values)) (l.most - 1)

abbrev pub invariant-loop-index : goal.invariant-loop-index
invariant-loop-index l = nat_le (most_member_levels (members_from (drop l.index l.members))) (l.most - 1) ≡ nat_le (most_member_levels (members_from l.members)) (l.most - 1)
