use Rattle.std.proofs.Common.{sym, ◌∙◌, arith}
use Rattle.seg_batches.specs.DeletedDocuments.{is_deleted}
use Rattle.seg_batches.proofs.StayingMembers.{loses_one, keeps_one}
use Rattle.seg_batches.proofs.deleted_documents.remove_document.Goals as goal

pub returns-then-doc-max_value : goal.returns-then-doc-max_value
returns-then-doc-max_value c =
    keeps_one (λ i. is_deleted c.args.mapping.now i c.args.opstamp) c.args.doc c.args.alive.now (λ lt. absurd (omega (arith, c.if-doc-max_value.true, c.max_value.ensures)))

pub returns-then-is_deleted : goal.returns-then-is_deleted
returns-then-is_deleted c =
    c.remove.ensures ∙ loses_one (λ i. is_deleted c.args.mapping.now i c.args.opstamp) c.args.doc c.args.alive.now (sym c.is_deleted.ensures ∙ c.if-is_deleted.true)

pub returns-else-is_deleted : goal.returns-else-is_deleted
returns-else-is_deleted c =
    keeps_one (λ i. is_deleted c.args.mapping.now i c.args.opstamp) c.args.doc c.args.alive.now (λ lt. sym c.is_deleted.ensures ∙ c.if-is_deleted.false)
