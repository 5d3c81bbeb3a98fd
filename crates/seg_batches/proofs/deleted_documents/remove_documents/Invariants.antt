use Rattle.std.proofs.Common.{◌≡◌, drop, length}
use Rattle.seg_batches.specs.DeletedDocuments.{is_deleted}
use Rattle.seg_batches.specs.AppliedDeletes.{staying}
use Rattle.seg_batches.proofs.DroppedNumbers.{passes}
use Rattle.seg_batches.proofs.deleted_documents.remove_documents.Given as goal

-- what is left, without those that are still to be taken out, is what is to be left
abbrev pub invariant-loop-doc : goal.invariant-loop-doc
invariant-loop-doc l = record {
  size : length l.alive ≡ length l.fn.alive;
  alive : staying (passes (λ i. is_deleted l.mapping i l.opstamp) (drop l.doc-index l.docs)) l.alive ≡ staying (passes (λ i. is_deleted l.mapping i l.opstamp) l.docs) l.fn.alive;
}
