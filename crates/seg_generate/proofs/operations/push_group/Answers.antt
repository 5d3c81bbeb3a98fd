use Rattle.std.proofs.Common.{map}
use Rattle.std.proofs.lemmas.Result.{on_ok_weaker}
use Rattle.seg_check.specs.UserOperations.{operation_of}
use Rattle.seg_generate.proofs.PushedOperations.{grouped}
use Rattle.seg_generate.proofs.operations.push_group.Goals as goal

pub returns : goal.returns
returns c =
    on_ok_weaker c.push_delete.result (λ e.
    grouped (map operation_of c.args.operations.now.items) (map operation_of c.push_additions.new.operations.items)
    (map operation_of c.push_delete.new.operations.items) _ c.deleted_number.result _ c.in_ok-push_additions.ensures c.deleted_number.ensures e)
    c.push_delete.ensures
