use Rattle.std.proofs.Common.{◌-◌, ◌∙◌, arith, length}
use Rattle.seg_index_build.proofs.SegmentIds.{last_given, work_taken}
use Rattle.seg_index_build.proofs.merge_plan.split_ids.Goals as goal

pub returns-clause-work : goal.returns-clause-work
returns-clause-work c = work_taken c.args.ids.now (length c.args.ids.now - 1) (omega (arith, c.requires))

pub returns-clause-output : goal.returns-clause-output
returns-clause-output c =
    c.index-ids-last.is ∙ last_given c.args.ids.now (length c.args.ids.now - 1) c.index-ids-last.result
    (omega (arith, c.requires))
