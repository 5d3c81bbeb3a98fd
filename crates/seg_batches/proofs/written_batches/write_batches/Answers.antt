use Rattle.std.proofs.Common.{◌≤◌, rules, length, map, refl, ap, ◌∙◌, arith}
use Rattle.std.proofs.lemmas.List.{drop_all, length-map}
use Rattle.std.proofs.lemmas.Option.{slice_get_read}
use Rattle.seg_model.specs.Operations.{batches}
use Rattle.seg_batches.specs.Laws.{as_operations}
use Rattle.seg_check.specs.WriterStart.{start_refusal}
use Rattle.seg_check.specs.UserOperations.{operation_of}
use Rattle.seg_batches.specs.WrittenSegments.{segments_of}
use Rattle.seg_batches.specs.BatchWriteSteps.{batch_causes}
use Rattle.seg_batches.proofs.BatchSteps.{ends_here}
use Rattle.seg_batches.proofs.BatchTurns.{first_place, turn_here}
use Rattle.seg_batches.proofs.WrittenBatches.{all_segments, all_written, batch_ends, batch_more, none_yet, segments_turn, starves}
use Rattle.seg_batches.proofs.PassedDeletes.{passed_further}
use Rattle.seg_batches.proofs.written_batches.write_batches.Goals as goal

pub returns-in_default-clause-does : goal.returns-in_default-clause-does
returns-in_default-clause-does g c =
    let F = g.Z.Analyzers.tokens_of c.args.analyzers.now in
    let schema = c.args.schema.now in
    let operations = map operation_of c.args.operations.now in
    let ids = c.args.ids.now in
    let causes = batch_causes (start_refusal (g.Z.Analyzers.knows c.args.analyzers.now) 15000 schema c.args.settings.now) schema F c.args.cuts.now operations in
    let all = batches schema F c.args.cuts.now operations in
    starves causes schema c.args.settings.now.docstore_blocksize F ids all ids causes all _ _ (none_yet causes schema c.args.settings.now.docstore_blocksize F ids all _)

pub write_batch-requires-clause-rises : goal.write_batch-requires-clause-rises
write_batch-requires-clause-rises g c =
    let end = c.batch_end-end.result in
    (turn_here c.args.schema.now (g.Z.Analyzers.tokens_of c.args.analyzers.now) (map operation_of c.args.operations.now) c.args.cuts.now c.loop-at.at c.loop-at.first c.loop-at.invariant.place end
    (ends_here c.args.operations.now c.args.cuts.now c.loop-at.at end c.batch_end-end.ensures)).rises

pub write_batch-requires-clause-within : goal.write_batch-requires-clause-within
write_batch-requires-clause-within g c =
    let end = c.batch_end-end.result in
    let within = (turn_here c.args.schema.now (g.Z.Analyzers.tokens_of c.args.analyzers.now) (map operation_of c.args.operations.now) c.args.cuts.now c.loop-at.at c.loop-at.first c.loop-at.invariant.place end
    (ends_here c.args.operations.now c.args.cuts.now c.loop-at.at end c.batch_end-end.ensures)).next.within in
    omega (arith, within, length-map c.args.operations.now operation_of)

pub returns-in-Err-clause-does : goal.returns-in-Err-clause-does
returns-in-Err-clause-does g c =
    let F = g.Z.Analyzers.tokens_of c.args.analyzers.now in
    let schema = c.args.schema.now in
    let cuts = c.args.cuts.now in
    let operations = map operation_of c.args.operations.now in
    let start = start_refusal (g.Z.Analyzers.knows c.args.analyzers.now) 15000 schema c.args.settings.now in
    let ids = c.args.ids.now in
    let at = c.loop-at.at in
    let end = c.batch_end-end.result in
    let t = turn_here schema F operations cuts at c.loop-at.first c.loop-at.invariant.place end (ends_here c.args.operations.now cuts at end c.batch_end-end.ensures) in
    let found = slice_get_read ids _ at c.index-ids-at.result refl c.loop-at-test.true c.index-ids-at.is in
    batch_ends start schema c.args.settings.now.docstore_blocksize F operations cuts at c.loop-at.first end t ids c.requires.ids c.index-ids-at.result found (batch_causes start schema F cuts operations) (batches schema F cuts operations) _ _ _ c.loop-at.invariant.so_far c.in-Err.e c.in-Err.ensures.does

pub returns-in_default-keep-clause-does : goal.returns-in_default-keep-clause-does
returns-in_default-keep-clause-does g c =
    let F = g.Z.Analyzers.tokens_of c.args.analyzers.now in
    let schema = c.args.schema.now in
    let cuts = c.args.cuts.now in
    let operations = map operation_of c.args.operations.now in
    let start = start_refusal (g.Z.Analyzers.knows c.args.analyzers.now) 15000 schema c.args.settings.now in
    let ids = c.args.ids.now in
    let at = c.loop-at.at in
    let end = c.batch_end-end.result in
    let causes = batch_causes start schema F cuts operations in
    let all = batches schema F cuts operations in
    let t = turn_here schema F operations cuts at c.loop-at.first c.loop-at.invariant.place end (ends_here c.args.operations.now cuts at end c.batch_end-end.ensures) in
    let found = slice_get_read ids _ at c.index-ids-at.result refl c.loop-at-test.true c.index-ids-at.is in
    starves causes schema c.args.settings.now.docstore_blocksize F ids all _ _ _ _ _ (batch_more start schema c.args.settings.now.docstore_blocksize F operations cuts at c.loop-at.first end t ids c.requires.ids c.index-ids-at.result found causes all _ _ _ c.loop-at.invariant.so_far c.in-Ok-write_batch.segment c.in-Ok-write_batch.ensures.does)

pub loop-at-init : goal.loop-at-init
loop-at-init g c =
    let F = g.Z.Analyzers.tokens_of c.args.analyzers.now in
    let schema = c.args.schema.now in
    let operations = map operation_of c.args.operations.now in
    let causes = batch_causes (start_refusal (g.Z.Analyzers.knows c.args.analyzers.now) 15000 schema c.args.settings.now) schema F c.args.cuts.now operations in
    record {
      place = first_place operations c.args.cuts.now c.requires.cuts;
      waits = c.in-Ok.ensures.deletes;
      cursor = search (rules, arith);
      passed = search (rules, arith);
      segments = search (rules, arith);
      so_far = none_yet causes schema c.args.settings.now.docstore_blocksize F c.args.ids.now (batches schema F c.args.cuts.now operations) _;
    }

pub loop-at-preserved : goal.loop-at-preserved
loop-at-preserved g c =
    let F = g.Z.Analyzers.tokens_of c.args.analyzers.now in
    let operations = map operation_of c.args.operations.now in
    let schema = c.args.schema.now in
    let cuts = c.args.cuts.now in
    let ids = c.args.ids.now in
    let start = start_refusal (g.Z.Analyzers.knows c.args.analyzers.now) 15000 schema c.args.settings.now in
    let all = batches schema F cuts operations in
    let end = c.batch_end-end.result in
    let at = c.loop-at.at in
    let first = c.loop-at.first in
    let id = c.index-ids-at.result in
    let so_far = c.loop-at.invariant in
    let here = c.in-Ok-write_batch.ensures in
    let t = turn_here schema F operations cuts at first so_far.place end (ends_here c.args.operations.now cuts at end c.batch_end-end.ensures) in
    let found = slice_get_read ids _ at id refl c.loop-at-test.true c.index-ids-at.is in
    record {
      place = t.next;
      waits = ap as_operations here.earlier.operations ∙ so_far.waits;
      cursor = here.earlier.within;
      passed = passed_further first end _ _ _ t.rises here.earlier;
      segments =
          segments_turn start schema c.args.settings.now.docstore_blocksize F operations cuts at first end t ids c.requires.ids id found c.loop-at.written.items c.keep.new.written.items (segments_of ids all) c.in-Ok-write_batch.segment c.in-Ok-keep.ensures here.segment so_far.segments;
      so_far =
          batch_more start schema c.args.settings.now.docstore_blocksize F operations cuts at first end t ids c.requires.ids id found (batch_causes start schema F cuts operations) all _ _ _ so_far.so_far c.in-Ok-write_batch.segment here.does;
    }

pub returns-clause-does : goal.returns-clause-does
returns-clause-does g c =
    let F = g.Z.Analyzers.tokens_of c.args.analyzers.now in
    let schema = c.args.schema.now in
    let cuts = c.args.cuts.now in
    let operations = map operation_of c.args.operations.now in
    let ids = c.args.ids.now in
    let causes = batch_causes (start_refusal (g.Z.Analyzers.knows c.args.analyzers.now) 15000 schema c.args.settings.now) schema F cuts operations in
    let le : length ids ≤ c.loop-at.at = omega (arith, c.loop-at-test.false) in
    all_written causes schema c.args.settings.now.docstore_blocksize F ids (batches schema F cuts operations) _ _ _ _ _ c.loop-at.invariant.so_far c.loop-at.written (drop_all c.loop-at.at ids le)

pub returns-clause-segments : goal.returns-clause-segments
returns-clause-segments g c =
    let F = g.Z.Analyzers.tokens_of c.args.analyzers.now in
    let le : length c.args.ids.now ≤ c.loop-at.at = omega (arith, c.loop-at-test.false) in
    all_segments c.args.schema.now F (map operation_of c.args.operations.now) c.args.cuts.now c.args.ids.now c.loop-at.at c.loop-at.first c.loop-at.written.items _ le c.loop-at.invariant.segments
