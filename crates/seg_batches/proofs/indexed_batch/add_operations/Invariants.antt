use Rattle.std.proofs.Common.{◌≡◌, ◌+◌, map, take, drop}
use Rattle.seg_check.specs.UserOperations.{operation_of}
use Rattle.seg_batches.specs.IndexedBatches.{HasAdditions}
use Rattle.seg_batches.proofs.RefusedBatches.{refused_from}
use Rattle.seg_batches.proofs.indexed_batch.add_operations.Given as goal

-- the writer has the documents so far, of which none is refused
abbrev pub invariant-loop-at : goal.invariant-loop-at
invariant-loop-at g l =
    let analyzer = g.Z.Analyzers.tokens_of l.initial.writer.0 in
    let fields = l.initial.writer.1.schema in
    let operations = map operation_of l.operations in
    record {
      analyzers : l.writer.0 ≡ l.initial.writer.0;
      schema : l.writer.1.schema ≡ fields;
      block_size : l.writer.1.block_size ≡ l.initial.writer.1.block_size;
      has : HasAdditions analyzer l.first (take l.at operations) l.writer.1;
      rest : refused_from fields analyzer (l.first + l.at) (drop l.at operations) ≡ refused_from fields analyzer l.first operations;
    }
