use Rattle.std.proofs.Common.{◌+◌, ◌*◌, map}
use Rattle.seg_model.specs.Operations.{add}
use Rattle.seg_check.specs.UserOperations.{operation_of}
use Rattle.seg_generate.specs.Documents.{document}
use Rattle.seg_generate.proofs.NumberedLists.{item_more}
use Rattle.seg_generate.proofs.operations.push_additions.Goals as goal

pub loop-place-preserved : goal.loop-place-preserved
loop-place-preserved c =
    item_more (λ place. add (document (8 * c.args.group + place))) (map operation_of c.args.operations.now.items)
    (map operation_of c.loop-place.operations.items) (map operation_of c.push_addition.new.operations.items) c.loop-place.place
    c.loop-place.invariant c.in_ok-push_addition.ensures
