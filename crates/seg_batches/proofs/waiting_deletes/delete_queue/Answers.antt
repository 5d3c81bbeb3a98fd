use Rattle.std.proofs.Common.{◌∙◌, map}
use Rattle.seg_model.specs.Stamps.{stamped_deletes}
use Rattle.seg_batches.specs.Laws.{as_operations}
use Rattle.seg_check.specs.UserOperations.{operation_of}
use Rattle.seg_batches.proofs.OperationTurns.{operation_at, one_more_waits}
use Rattle.seg_batches.proofs.waiting_deletes.delete_queue.Goals as goal

pub loop-at-preserved : goal.loop-at-preserved
loop-at-preserved c =
    let operations = map operation_of c.args.operations.now in
    let item = c.index-operations-at in
    record {
      deletes =
          one_more_waits operations c.loop-at.at (operation_of item.result) (as_operations c.loop-at.queue.operations) (as_operations c.push_delete.new.queue.operations) (stamped_deletes 0 operations)
          (operation_at c.args.operations.now c.loop-at.at item.result c.loop-at-test.true item.is) c.in_ok-push_delete.ensures.deletes c.loop-at.invariant.deletes;
      unflushed = c.in_ok-push_delete.ensures.flushed ∙ c.loop-at.invariant.unflushed;
    }
