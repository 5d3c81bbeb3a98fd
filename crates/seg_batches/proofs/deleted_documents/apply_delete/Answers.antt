use Rattle.std.proofs.Common.{◌∙◌}
use Rattle.seg_open.specs.OpenSegment.{contents_of}
use Rattle.seg_batches.proofs.DeleteSequences.{left_by_named}
use Rattle.seg_batches.proofs.deleted_documents.apply_delete.Goals as goal

pub returns-clause-left : goal.returns-clause-left
returns-clause-left g c =
    c.remove_documents.ensures
    ∙ left_by_named (λ target. g.T.DeleteTarget.names target c.args.reader.now.schema (contents_of c.args.reader.now)) c.args.mapping.now c.args.operation.now c.args.reader.now.documents
    c.deref.result.now c.args.alive.now c.requires.size (c.deref.ensures.value ∙ c.in-Ok.ensures.ok)
