use Rattle.std.proofs.Common.{◌+◌, map, take, refl, sym, ap, subst, ◌∙◌, arith}
use Rattle.std.proofs.lemmas.List.{length-map}
use Rattle.seg_model.specs.Operations.{add, delete}
use Rattle.seg_build.specs.SegmentWriters.{Adds, AddsNone}
use Rattle.seg_check.specs.UserOperations.{operation_of}
use Rattle.seg_check.specs.declared.user_operation.UserOperation.TheVariants.{Add, Delete}
use Rattle.seg_batches.specs.IndexedBatches.{HasAdditions}
use Rattle.seg_batches.proofs.AddedDocuments.{all_added, not_added, one_more, taken_unrefused}
use Rattle.seg_batches.proofs.RefusedBatches.{still_none}
use Rattle.seg_batches.proofs.OperationTurns.{told_at}
use Rattle.seg_batches.proofs.indexed_batch.add_operations.Goals as goal
use Rattle.seg_batches.proofs.indexed_batch.add_operations.Goals.{in-Add+in-Ok, in-Delete}

pub returns-in-Err : goal.returns-in-Err
returns-in-Err g c =
    let F = g.Z.Analyzers.tokens_of in
    let item = c.index-operations-at in
    let operations = map operation_of c.args.operations.now in
    let i = c.loop-at.at in
    let document = c.in-Add.document in
    let at = told_at c.args.operations.now i item.result (Add document) c.loop-at-test.true item.is c.in-Add.is in
    let so_far = c.loop-at.invariant in
    let old = c.loop-at.writer.1 in
    let new = c.add_ref.new.self.1 in
    record {
      added = tt;
      analyzers = c.in-Err.ensures.analyzers ∙ so_far.analyzers;
      schema = c.in-Err.ensures.same.schema ∙ so_far.schema;
      block_size = c.in-Err.ensures.same.block_size ∙ so_far.block_size;
      err = not_added c.args.writer.now.1.schema (F c.args.writer.now.0) c.args.first operations i c.requires.few so_far.rest old new so_far.schema so_far.has document at c.in-Err.e
          (subst (λ z. AddsNone (F z) document (c.args.first + i) old new c.in-Err.e) so_far.analyzers c.in-Err.ensures.err);
    }

pub loop-at-preserved : goal.loop-at-preserved
loop-at-preserved g c =
    let F = g.Z.Analyzers.tokens_of in
    let schema = c.args.writer.now.1.schema in
    let analyzer = F c.args.writer.now.0 in
    let first = c.args.first in
    let item = c.index-operations-at in
    let operations = map operation_of c.args.operations.now in
    let i = c.loop-at.at in
    let so_far = c.loop-at.invariant in
    let old = c.loop-at.writer.1 in
    elim c.match-operation.branch [
      | in-Add+in-Ok w ↦
          let document = w.in-Add.document in
          let new = w.add_ref.new.self.1 in
          let at = told_at c.args.operations.now i item.result (Add document) c.loop-at-test.true item.is w.in-Add.is in
          let taken = subst (λ z. Adds (F z) document (first + i) old new) so_far.analyzers w.in-Ok.ensures.ok in
          record {
            analyzers = ap (λ v. v.0) w.writer-is ∙ w.in-Ok.ensures.analyzers ∙ so_far.analyzers;
            schema = ap (λ v. v.1.schema) w.writer-is ∙ w.in-Ok.ensures.same.schema ∙ so_far.schema;
            block_size = ap (λ v. v.1.block_size) w.writer-is ∙ w.in-Ok.ensures.same.block_size ∙ so_far.block_size;
            has =
                subst (λ v. HasAdditions analyzer first (take (i + 1) operations) v.1) (sym w.writer-is)
                (one_more schema analyzer first operations i (add document) old new at so_far.has taken);
            rest =
                still_none schema analyzer first operations i (add document) at (taken_unrefused analyzer (first + i) old new schema (add document) so_far.schema taken) so_far.rest;
          }
      | in-Delete w ↦
          let term = w.in-Delete.field-0 in
          let at = told_at c.args.operations.now i item.result (Delete term) c.loop-at-test.true item.is w.in-Delete.is in
          record {
            analyzers = ap (λ v. v.0) w.writer-is ∙ so_far.analyzers;
            schema = ap (λ v. v.1.schema) w.writer-is ∙ so_far.schema;
            block_size = ap (λ v. v.1.block_size) w.writer-is ∙ so_far.block_size;
            has =
                subst (λ v. HasAdditions analyzer first (take (i + 1) operations) v.1) (sym w.writer-is)
                (one_more schema analyzer first operations i (delete term) old old at so_far.has refl);
            rest = still_none schema analyzer first operations i (delete term) at refl so_far.rest;
          }
    ]

pub returns : goal.returns
returns g c = record {
  added = all_added (g.Z.Analyzers.tokens_of c.args.writer.now.0) c.args.first (map operation_of c.args.operations.now) c.loop-at.at c.loop-at.writer.1
      (omega (arith, c.loop-at-test.false, length-map c.args.operations.now operation_of)) c.loop-at.invariant.has;
  analyzers = c.loop-at.invariant.analyzers;
  schema = c.loop-at.invariant.schema;
  block_size = c.loop-at.invariant.block_size;
  err = tt;
}
