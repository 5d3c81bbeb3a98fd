use Rattle.std.proofs.Common.{◌∙◌, ap, sym}
use Rattle.seg_store.specs.Store.{documents_of}
use Rattle.seg_doc_bytes.specs.StoredDocument.{is_stored_document, stored_document_of}
use Rattle.seg_tool.proofs.Printed.{document_more}
use Rattle.seg_tool.proofs.segment_text.push_documents.Goals as goal

pub push_document-requires : goal.push_document-requires
push_document-requires c = ap is_stored_document c.as_slice.ensures ∙ c.raw-stored.ensures.stored

pub loop-id-preserved : goal.loop-id-preserved
loop-id-preserved c =
    document_more c.loop-id.out.items c.push_document.new.out.items c.args.schema.now (documents_of c.args.store.now) c.loop-id.id (stored_document_of c.as_slice.result.now)
    (c.raw-stored.ensures.reads ∙ ap stored_document_of (sym c.as_slice.ensures)) c.in_ok-push_document.ensures
    ∙ c.loop-id.invariant
