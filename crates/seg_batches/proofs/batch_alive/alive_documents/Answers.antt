use Rattle.std.proofs.Common.{◌∙◌, map, drop, arith}
use Rattle.std.proofs.lemmas.Result.{IfOk-weaker}
use Rattle.seg_batches.specs.declared.doc_opstamp_mapping.DocToOpstampMapping.TheVariants.{WithMap}
use Rattle.seg_open.specs.OpenSegment.{terms_in}
use Rattle.seg_batches.specs.AppliedDeletes.{IsTold, left_by, term_names}
use Rattle.seg_batches.specs.BatchSegments.{IsLeft}
use Rattle.seg_batches.proofs.LeftBatches.{none_waits, told_alive}
use Rattle.seg_batches.proofs.batch_alive.alive_documents.Goals as goal

pub returns-then-not-skip_earlier : goal.returns-then-not-skip_earlier
returns-then-not-skip_earlier c = let skipped = c.skip_earlier.ensures in
    record {
      left = λ analyzer before batch after place made are all.
          none_waits c.applied_deletes_leave_the_alive.ensures c.args.segment.now.schema analyzer before batch after c.args.first place c.args.stamps are c.args.queue.now.operations all
          c.skip_earlier.new.cursor skipped.earlier.passed (skipped.end c.if-not-skip_earlier.true);
      earlier = skipped.earlier;
    }

pub returns : goal.returns
returns c =
    let reader = c.in-Ok.reader in
    let skipped = c.skip_earlier.ensures in
    let waiting = c.skip_earlier.new.queue.operations in
    record {
      left =
          IfOk-weaker c.apply_from.result (IsTold reader.documents (left_by (term_names (map terms_in reader.fields)) (WithMap c.args.stamps) reader.documents (drop c.skip_earlier.new.cursor waiting)))
          (IsLeft c.args.segment.now.schema c.args.files.now c.args.first c.args.stamps.now c.args.queue.now.operations)
          (λ told h analyzer before batch after place made are all.
          told_alive c.applied_deletes_leave_the_alive.ensures c.args.segment.now.schema analyzer before batch after c.args.first place c.args.stamps are c.args.queue.now.operations all
          c.skip_earlier.new.cursor skipped.earlier.passed c.files_spell_one_contents.ensures c.args.files.now reader waiting told made c.in-Ok.ensures.spell
          (c.in-Ok.ensures.of_number ∙ c.requires.number) skipped.earlier.operations h)
          c.apply_from.ensures.left;
      earlier = record {
        operations = c.apply_from.ensures.keeps.operations ∙ skipped.earlier.operations;
        within = omega (arith, c.apply_from.ensures.keeps.rises, skipped.earlier.within);
        passed = skipped.earlier.passed;
      };
    }
