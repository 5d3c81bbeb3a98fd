use Rattle.std.proofs.Common.{List, ◌∷◌, [], ◌++◌, sym, ap, subst, ◌∙◌, append_assoc}
use Rattle.std.proofs.lemmas.List.{append-nil}
use Rattle.seg_column_merge.specs.Plans.{ArePlanned}
use Rattle.seg_column_merge.specs.declared.planned_group.PlannedGroup.{PlannedGroup}
use Rattle.seg_column_merge.proofs.FinishedFiles.{fails, there_is}
use Rattle.seg_column_merge.proofs.PutGroups.{next_cut}
use Rattle.seg_column_merge.proofs.merge_plan.planned_groups.Goals as goal

pub returns-in-Err : goal.returns-in-Err
returns-in-Err c =
    let there = there_is c.args.table.now c.loop-start.start c.loop-start-test.true in
    fails c.args.merge.now c.requires.merge c.args.table.now c.requires.table c.loop-start.start there.0
    c.loop-start-test.true there.1 c.loop-start.invariant.cut c.in-Err.error c.in-Err.ensures

pub loop-start-preserved : goal.loop-start-preserved
loop-start-preserved c =
    let merge = c.args.merge.now in
    let table = c.args.table.now in
    let there = there_is table c.loop-start.start c.loop-start-test.true in
    let before = c.loop-start.invariant in
    let planned = c.in-Ok.ensures in
    record {
      cut = next_cut merge c.requires.merge table c.requires.table c.loop-start.start c.in-Ok.group.end there.0
          c.loop-start-test.true there.1 planned.group before.cut;
      all = λ left are.
          subst (ArePlanned merge table 0)
          (sym (ap (λ (gs : List PlannedGroup). gs ++ left) c.in-Ok-push_group.ensures
          ∙ append_assoc c.loop-start.groups.items (c.in-Ok.group ∷ []) left))
          (before.all (c.in-Ok.group ∷ left) (planned, are));
    }

pub returns : goal.returns
returns c =
    let groups = c.loop-start.groups.items in
    subst (ArePlanned c.args.merge.now c.args.table.now 0) (append-nil groups)
    (c.loop-start.invariant.all [] c.loop-start-test.false)
