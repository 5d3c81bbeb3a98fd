use Rattle.std.proofs.Common.{◌≡◌, ◌++◌, map, drop}
use Rattle.seg_model.specs.Stamps.{stamped_deletes}
use Rattle.seg_batches.specs.Laws.{as_operations}
use Rattle.seg_check.specs.UserOperations.{operation_of}
use Rattle.seg_batches.proofs.waiting_deletes.delete_queue.Given as goal

-- what waits, with the deletes that are left, are all
abbrev pub invariant-loop-at : goal.invariant-loop-at
invariant-loop-at l =
    let operations = map operation_of l.operations in
    record {
      deletes : as_operations l.queue.operations ++ stamped_deletes l.at (drop l.at operations) ≡ stamped_deletes 0 operations;
      unflushed : l.queue.flushed ≡ 0;
    }
