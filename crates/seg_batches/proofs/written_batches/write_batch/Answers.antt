use Rattle.std.proofs.Common.{◌≡◌, List, [], map, Err, None, refl, sym, ap, subst, inr}
use Rattle.std.specs.Prelude.{slice_range}
use Rattle.std.specs.List.{enumerate_from}
use Rattle.std.proofs.lemmas.Result.{IfOk-weaker}
use Rattle.seg_values.specs.declared.error.TantivyError.TheVariants.{OutOfMemory}
use Rattle.seg_model.specs.Operations.{Operation, additions}
use Rattle.seg_model.specs.Refusals.{batch_refusal}
use Rattle.seg_model.specs.CheckAnswers.{Tells}
use Rattle.seg_build.specs.SegmentWriters.{Writes}
use Rattle.seg_check.specs.UserOperations.{operation_of}
use Rattle.seg_check.specs.WriterStart.{start_refusal}
use Rattle.seg_batches.specs.BatchWriteSteps.{StandAndTell, batch_between, batch_cause}
use Rattle.seg_batches.proofs.BatchSteps.{range_mapped, segment_here, set_here}
use Rattle.seg_batches.proofs.BatchCauses.{begun, no_cause, not_begun, tells_batch, tells_start}
use Rattle.seg_batches.proofs.LeftBatches.{batch_few, batch_whole, of_started}
use Rattle.seg_batches.proofs.written_batches.write_batch.Goals as goal

pub returns-in-Err : goal.returns-in-Err
returns-in-Err g c =
    let F = g.Z.Analyzers.tokens_of c.args.analyzers.now in
    let schema = c.args.schema.now in
    let operations = map operation_of c.args.operations.now in
    let start = start_refusal (g.Z.Analyzers.knows c.args.analyzers.now) 15000 schema c.args.settings.now in
    let batch = enumerate_from c.args.first (slice_range operations c.args.first c.args.end) in
    record {
      does =
          not_begun (batch_cause start schema F batch) schema c.args.settings.now.docstore_blocksize F c.args.id (batch_between schema F c.args.first c.args.end operations) c.in-Err.e _
          (tells_start start (batch_refusal schema F batch) c.in-Err.e c.in-Err.ensures.tells);
      segment = tt;
      earlier = record { operations = refl; within = c.requires.cursor; passed = c.requires.passed };
    }

pub index_batch-requires-clause-fresh : goal.index_batch-requires-clause-fresh
index_batch-requires-clause-fresh g c =
    let F = g.Z.Analyzers.tokens_of in
    subst (λ z. Writes (F z) [] [] c.in-Ok.writer.1) (sym c.in-Ok.ensures.unused.0) c.in-Ok.ensures.unused.1.none

pub returns-in-Err-index_batch : goal.returns-in-Err-index_batch
returns-in-Err-index_batch g c =
    let tokens = g.Z.Analyzers.tokens_of in
    let F = tokens c.args.analyzers.now in
    let schema = c.args.schema.now in
    let first = c.args.first in
    let operations = map operation_of c.args.operations.now in
    let start = start_refusal (g.Z.Analyzers.knows c.args.analyzers.now) 15000 schema c.args.settings.now in
    let batch = map operation_of (slice_range c.args.operations.now first c.args.end) in
    let writer = c.in-Ok.writer in
    let e = c.in-Err-index_batch.e in
    let tells = tells_batch start writer.1.schema schema (tokens writer.0) F first batch c.in-Ok.ensures.unused.1.of_schema (ap tokens c.in-Ok.ensures.unused.0) c.in-Ok.ensures.tells e c.in-Err-index_batch.ensures.tells in
    record {
      does =
          not_begun (batch_cause start schema F (enumerate_from first (slice_range operations first c.args.end))) schema c.args.settings.now.docstore_blocksize F c.args.id (batch_between schema F first c.args.end operations) e _
          (subst (λ (os : List Operation). Tells {T = Unit {0}} (batch_cause start schema F (enumerate_from first os)) (Err e)) (range_mapped c.args.operations.now first c.args.end) tells);
      segment = tt;
      earlier = record { operations = refl; within = c.requires.cursor; passed = c.requires.passed };
    }

pub of_segment-requires-clause-few : goal.of_segment-requires-clause-few
of_segment-requires-clause-few g c =
    let tokens = g.Z.Analyzers.tokens_of in
    let F = tokens c.args.analyzers.now in
    let size = c.args.settings.now.docstore_blocksize in
    let batch = map operation_of (slice_range c.args.operations.now c.args.first c.args.end) in
    let segment = c.in-Ok-index_batch.segment in
    batch_few c.args.schema.now size F c.args.first batch segment.files segment.stamps.items
    (of_started c.in-Ok.writer.1 c.args.schema.now size (tokens c.in-Ok.writer.0) F c.args.first batch segment.files segment.stamps.items c.in-Ok.ensures.unused.1 (ap tokens c.in-Ok.ensures.unused.0) c.in-Ok-index_batch.ensures.segment)

pub of_segment-requires-clause-whole : goal.of_segment-requires-clause-whole
of_segment-requires-clause-whole g c =
    let tokens = g.Z.Analyzers.tokens_of in
    let F = tokens c.args.analyzers.now in
    let size = c.args.settings.now.docstore_blocksize in
    let batch = map operation_of (slice_range c.args.operations.now c.args.first c.args.end) in
    let segment = c.in-Ok-index_batch.segment in
    batch_whole c.args.schema.now size F c.args.first batch segment.files segment.stamps.items
    (of_started c.in-Ok.writer.1 c.args.schema.now size (tokens c.in-Ok.writer.0) F c.args.first batch segment.files segment.stamps.items c.in-Ok.ensures.unused.1 (ap tokens c.in-Ok.ensures.unused.0) c.in-Ok-index_batch.ensures.segment)

pub returns-in_default : goal.returns-in_default
returns-in_default g c =
    let F = g.Z.Analyzers.tokens_of c.args.analyzers.now in
    let schema = c.args.schema.now in
    let operations = map operation_of c.args.operations.now in
    let start = start_refusal (g.Z.Analyzers.knows c.args.analyzers.now) 15000 schema c.args.settings.now in
    let batch = enumerate_from c.args.first (slice_range operations c.args.first c.args.end) in
    record {
      does =
          not_begun (batch_cause start schema F batch) schema c.args.settings.now.docstore_blocksize F c.args.id (batch_between schema F c.args.first c.args.end operations) OutOfMemory _
          (inr refl);
      segment = tt;
      earlier = c.of_segment.ensures.earlier;
    }

pub write_made-requires-clause-few : goal.write_made-requires-clause-few
write_made-requires-clause-few g c =
    let tokens = g.Z.Analyzers.tokens_of in
    let F = tokens c.args.analyzers.now in
    let size = c.args.settings.now.docstore_blocksize in
    let batch = map operation_of (slice_range c.args.operations.now c.args.first c.args.end) in
    let segment = c.in-Ok-index_batch.segment in
    (c.in-Ok-of_segment.ensures.segment size F batch
    (of_started c.in-Ok.writer.1 c.args.schema.now size (tokens c.in-Ok.writer.0) F c.args.first batch segment.files segment.stamps.items c.in-Ok.ensures.unused.1 (ap tokens c.in-Ok.ensures.unused.0) c.in-Ok-index_batch.ensures.segment)).few

pub write_made-requires-clause-set : goal.write_made-requires-clause-set
write_made-requires-clause-set g c =
    let tokens = g.Z.Analyzers.tokens_of in
    let F = tokens c.args.analyzers.now in
    let size = c.args.settings.now.docstore_blocksize in
    let batch = map operation_of (slice_range c.args.operations.now c.args.first c.args.end) in
    let segment = c.in-Ok-index_batch.segment in
    let made = c.in-Ok-of_segment.ensures.segment size F batch
    (of_started c.in-Ok.writer.1 c.args.schema.now size (tokens c.in-Ok.writer.0) F c.args.first batch segment.files segment.stamps.items c.in-Ok.ensures.unused.1 (ap tokens c.in-Ok.ensures.unused.0) c.in-Ok-index_batch.ensures.segment) in
    set_here c.args.operations.now c.args.first c.args.end c.requires.rises c.requires.within c.args.schema.now F c.args.queue.now.operations c.requires.waits
    c.in-Ok-of_segment.made.max_doc made.number c.in-Ok-of_segment.made.alive made.left

pub returns : goal.returns
returns g c =
    let tokens = g.Z.Analyzers.tokens_of in
    let F = tokens c.args.analyzers.now in
    let schema = c.args.schema.now in
    let size = c.args.settings.now.docstore_blocksize in
    let first = c.args.first in
    let operations = map operation_of c.args.operations.now in
    let start = start_refusal (g.Z.Analyzers.knows c.args.analyzers.now) 15000 schema c.args.settings.now in
    let batch = map operation_of (slice_range c.args.operations.now first c.args.end) in
    let same = range_mapped c.args.operations.now first c.args.end in
    let writer = c.in-Ok.writer in
    let segment = c.in-Ok-index_batch.segment in
    let none = no_cause start writer.1.schema schema (tokens writer.0) F first batch c.in-Ok.ensures.unused.1.of_schema (ap tokens c.in-Ok.ensures.unused.0) c.in-Ok.ensures.tells c.in-Ok-index_batch.ensures.tells in
    let files = c.in-Ok-of_segment.made.files in
    let made = c.in-Ok-of_segment.ensures.segment size F batch
    (of_started writer.1 schema size (tokens writer.0) F first batch segment.files segment.stamps.items c.in-Ok.ensures.unused.1 (ap tokens c.in-Ok.ensures.unused.0) c.in-Ok-index_batch.ensures.segment) in
    record {
      does =
          begun (batch_cause start schema F (enumerate_from first (slice_range operations first c.args.end))) schema size F c.args.id (batch_between schema F first c.args.end operations) files c.write_made.result _ _
          (subst (λ (os : List Operation). batch_cause start schema F (enumerate_from first os) ≡ None) same none)
          (subst (λ (os : List Operation). StandAndTell schema size F (additions os) files) same
          (record { stand = made.stand; totals = made.totals; blocks = made.blocks }))
          c.write_made.ensures.works;
      segment = IfOk-weaker c.write_made.result _ _ (λ s is.
          segment_here c.args.operations.now first c.args.end c.requires.rises c.requires.within schema F c.args.queue.now.operations c.requires.waits
          c.in-Ok-of_segment.made.max_doc made.number c.in-Ok-of_segment.made.alive c.args.id s made.left is)
          c.write_made.ensures.segment;
      earlier = c.in-Ok-of_segment.ensures.earlier;
    }
