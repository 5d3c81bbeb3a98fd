use Rattle.std.proofs.Common.{◌≡◌, ◌∙◌, ap, subst, arith, length}
use Rattle.seg_model.specs.Operations.{additions, alive_after}
use Rattle.seg_model.proofs.Exports.{length-additions}
use Rattle.seg_batches.specs.AppliedDeletes.{IsTold}
use Rattle.seg_batches.specs.BatchSegments.{IsLeft}
use Rattle.seg_batches.proofs.LeftBatches.{whole_for}
use Rattle.seg_batches.proofs.made_batch.MadeBatch.of_segment.Goals as goal

pub overflow_cast-max_doc : goal.overflow_cast-max_doc
overflow_cast-max_doc c = omega (arith, c.len-max_doc.ensures, c.requires.few)

pub new-requires-clause-few : goal.new-requires-clause-few
new-requires-clause-few c = omega (arith, c.len-max_doc.ensures, c.requires.few)

pub alive_documents-requires-clause-whole : goal.alive_documents-requires-clause-whole
alive_documents-requires-clause-whole c =
    let number : c.len-max_doc.result ≡ length c.args.segment.stamps.items = omega (arith, c.len-max_doc.ensures) in
    whole_for c.new-described.result c.args.schema.now c.args.segment.files (length c.args.segment.stamps.items)
    (ap (λ s. s.schema) c.new-described.ensures ∙ c.share.ensures)
    (ap (λ s. s.meta.documents) c.new-described.ensures ∙ ap (λ m. m.documents) c.new.ensures ∙ number)
    c.requires.whole

pub returns-clause-segment : goal.returns-clause-segment
returns-clause-segment c = λ block_size analyzer operations are.
    let segment = c.args.segment in
    let counted : length segment.stamps.items ≡ length (additions operations) = ap length are.stamped ∙ length-additions c.args.first operations in
    let same : length c.deref.result.now ≡ c.len-max_doc.result = omega (arith, ap length c.deref.ensures.value, c.len-max_doc.ensures) in
    let left = subst (λ s. IsLeft s segment.files c.args.first c.deref.result.now c.args.queue.now.operations c.in-Ok.alive)
    (ap (λ s. s.schema) c.new-described.ensures ∙ c.share.ensures) c.in-Ok.ensures.left in
    record {
      stand = are.stand;
      totals = are.totals;
      blocks = are.blocks;
      number = omega (arith, counted, c.len-max_doc.ensures);
      few = omega (arith, c.len-max_doc.ensures, c.requires.few);
      left = λ before after place all.
          subst (λ n. IsTold n (alive_after c.args.schema.now analyzer operations after) c.in-Ok.alive) same
          (left analyzer before operations after place are.stand (c.deref.ensures.value ∙ are.stamped) all);
    }
