use Rattle.std.proofs.Common.{◌≡◌, ◌≤◌, ◌++◌, map, take, drop}
use Rattle.seg_model.specs.Operations.{batches}
use Rattle.seg_model.specs.Stamps.{stamped_deletes}
use Rattle.seg_batches.specs.Laws.{as_operations}
use Rattle.seg_check.specs.WriterStart.{start_refusal}
use Rattle.seg_check.specs.UserOperations.{operation_of}
use Rattle.seg_batches.specs.WrittenSegments.{segments_of}
use Rattle.seg_batches.specs.DeleteCursors.{passed_below}
use Rattle.seg_batches.specs.BatchWriteSteps.{batch_cause, batch_causes}
use Rattle.seg_batches.proofs.BatchTurns.{IsPlace, batches_left, parts_left}
use Rattle.seg_batches.proofs.WrittenBatches.{SoFar}
use Rattle.seg_batches.proofs.written_batches.write_batches.Given as goal

-- the batches so far are written, with those that are left they are all, and the cursor is past no delete that is left
abbrev pub invariant-loop-at : goal.invariant-loop-at
invariant-loop-at g l =
    let operations = map operation_of l.operations in
    let analyzer = g.Z.Analyzers.tokens_of l.analyzers in
    let start = start_refusal (g.Z.Analyzers.knows l.analyzers) 15000 l.schema l.settings in
    let all = batches l.schema analyzer l.cuts operations in
    let left = batches_left l.schema analyzer operations l.cuts l.at l.first in
    let ids_left = drop l.at l.ids in
    record {
      place : IsPlace operations l.cuts l.at l.first;
      waits : as_operations l.queue.operations ≡ stamped_deletes 0 operations;
      cursor : l.cursor ≤ l.queue.flushed;
      passed : passed_below l.first (take l.cursor l.queue.operations);
      segments : l.written.items ++ segments_of ids_left left ≡ segments_of l.ids all;
      so_far : SoFar (batch_causes start l.schema analyzer l.cuts operations) l.schema l.settings.docstore_blocksize analyzer l.ids all ids_left (map (batch_cause start l.schema analyzer) (parts_left operations l.cuts l.at l.first)) left
          (g.W.Directory.state l.fn.directory)
          (g.W.Directory.state l.directory);
    }
