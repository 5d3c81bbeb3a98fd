use Rattle.std.proofs.Common.{◌-◌, List, ◌++◌, length}
use Rattle.seg_column_merge.specs.MergedGroups.{IsCut}
use Rattle.seg_column_merge.specs.Plans.{ArePlanned}
use Rattle.seg_column_merge.specs.declared.planned_group.PlannedGroup.{PlannedGroup}
use Rattle.seg_column_merge.proofs.merge_plan.planned_groups.Given as goal

abbrev pub invariant-loop-start : goal.invariant-loop-start
invariant-loop-start l = record {
  cut : IsCut l.table l.start;
  all : (left : List PlannedGroup) → ArePlanned l.merge l.table l.start left
      → ArePlanned l.merge l.table 0 (l.groups.items ++ left);
}

abbrev pub decreases-loop-start : goal.decreases-loop-start
decreases-loop-start l = length l.table - l.start
