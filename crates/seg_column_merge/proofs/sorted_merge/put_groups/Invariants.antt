use Rattle.std.proofs.Common.{drop}
use Rattle.seg_column_merge.specs.MergedGroups.{SoFar}
use Rattle.seg_column_merge.specs.Plans.{ArePlanned}
use Rattle.seg_column_merge.proofs.sorted_merge.put_groups.Given as goal

abbrev pub invariant-loop-group : goal.invariant-loop-group
invariant-loop-group l = record {
  so_far : SoFar l.merge l.table l.start l.file;
  left : ArePlanned l.merge l.table l.start (drop l.group-index l.groups);
}
