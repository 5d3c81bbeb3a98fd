use Rattle.std.proofs.Common.{◌≡◌, ◌∙◌, map, arith}
use Rattle.seg_check.specs.UserOperations.{operation_of}
use Rattle.seg_generate.specs.GeneratedInput.{group_operations}
use Rattle.seg_generate.proofs.AllGroups.{all_groups}
use Rattle.seg_generate.proofs.NumberedLists.{group_more}
use Rattle.seg_generate.proofs.operations.operations.Goals as goal

pub loop-group-preserved : goal.loop-group-preserved
loop-group-preserved c =
    group_more (group_operations c.args.seed) (map operation_of c.loop-group.operations.items)
    (map operation_of c.push_group.new.operations.items) c.loop-group.group c.loop-group.invariant c.in_ok-push_group.ensures

pub returns : goal.returns
returns c =
    let all : c.loop-group.group ≡ 250 = omega arith in
    c.loop-group.invariant ∙ all_groups c.args.seed c.loop-group.group all
