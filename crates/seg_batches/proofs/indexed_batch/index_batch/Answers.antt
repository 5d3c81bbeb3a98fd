use Rattle.std.proofs.Common.{◌<◌, ◌≤◌, ◌^◌, arith, ap, inl, length, map}
use Rattle.seg_model.specs.Operations.{additions}
use Rattle.seg_check.specs.UserOperations.{operation_of}
use Rattle.seg_batches.specs.IndexedBatches.{AreOfBatch}
use Rattle.seg_batches.proofs.AddedDocuments.{not_made, of_batch, were_taken}
use Rattle.seg_batches.proofs.BatchSteps.{not_refused}
use Rattle.seg_batches.proofs.RefusedBatches.{too_many}
use Rattle.seg_batches.proofs.indexed_batch.index_batch.Goals as goal

pub returns-then-count_additions-gt-MAX_DOCUMENTS-clause-tells : goal.returns-then-count_additions-gt-MAX_DOCUMENTS-clause-tells
returns-then-count_additions-gt-MAX_DOCUMENTS-clause-tells g c =
    let operations = map operation_of c.args.operations.now in
    let many : 2 ^ 31 ≤ length (additions operations) = omega (arith, c.if-count_additions-gt-MAX_DOCUMENTS.true, c.count_additions.ensures) in
    inl (too_many c.args.writer.1.schema (g.Z.Analyzers.tokens_of c.args.writer.0) c.args.first operations many)

pub returns-in-Ok-into_segment-clause-segment : goal.returns-in-Ok-into_segment-clause-segment
returns-in-Ok-into_segment-clause-segment g c =
    let F = g.Z.Analyzers.tokens_of in
    let operations = map operation_of c.args.operations.now in
    let made = c.in-Ok-into_segment in
    let writer = c.add_operations.new.writer in
    let few : length (additions operations) < 2 ^ 31 = omega (arith, c.if-count_additions-gt-MAX_DOCUMENTS.false, c.count_additions.ensures) in
    of_batch c.args.writer.1.schema (F c.args.writer.0) c.args.first operations writer.1 c.in-Ok.ensures.schema c.in-Ok.ensures.added
    c.args.writer.1.block_size (F writer.0) made.segment c.in-Ok.ensures.block_size (ap F c.in-Ok.ensures.analyzers) few
    made.ensures.stands made.ensures.fields made.ensures.totals made.ensures.blocks made.ensures.stamps

pub returns-in-Ok-into_segment-clause-tells : goal.returns-in-Ok-into_segment-clause-tells
returns-in-Ok-into_segment-clause-tells g c =
    let F = g.Z.Analyzers.tokens_of c.args.writer.0 in
    let schema = c.args.writer.1.schema in
    let operations = map operation_of c.args.operations.now in
    let made : AreOfBatch schema c.args.writer.1.block_size F c.args.first operations c.in-Ok-into_segment.segment.files c.in-Ok-into_segment.segment.stamps.items = returns-in-Ok-into_segment-clause-segment g c in
    let taken = were_taken schema F c.args.first operations c.add_operations.new.writer.1 c.in-Ok.ensures.schema c.in-Ok.ensures.added in
    not_refused schema F c.args.first operations c.in-Ok-into_segment.segment.files made.few taken made.stand

pub returns-in-Err-into_segment-clause-tells : goal.returns-in-Err-into_segment-clause-tells
returns-in-Err-into_segment-clause-tells g c =
    let F = g.Z.Analyzers.tokens_of in
    let operations = map operation_of c.args.operations.now in
    let writer = c.add_operations.new.writer in
    let few : length (additions operations) < 2 ^ 31 = omega (arith, c.if-count_additions-gt-MAX_DOCUMENTS.false, c.count_additions.ensures) in
    not_made c.args.writer.1.schema (F c.args.writer.0) c.args.first operations writer.1 c.in-Ok.ensures.schema c.in-Ok.ensures.added
    (F writer.0) (ap F c.in-Ok.ensures.analyzers) few c.in-Err-into_segment.e c.in-Err-into_segment.ensures.errors
