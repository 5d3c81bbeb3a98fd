use Rattle.std.proofs.Common.{◌≡◌, Some, sym, ap, ◌∙◌, slice_range}
use Rattle.std.specs.List.{slice_get}
use Rattle.seg_store.specs.Store.{blocks_of, raw_documents, documents_of}
use Rattle.seg_store.proofs.DocumentPlaces.{stored_at}
use Rattle.seg_store.proofs.MadeDocuments.{document_read}
use Rattle.seg_store.proofs.store_reader.StoreReader.raw.Goals as goal

pub returns-clause-stored : goal.returns-clause-stored
returns-clause-stored c =
    let bytes = c.self.inside.bytes in
    let part = ap (λ l. slice_range l c.document_place-start.result.0 c.document_place-start.result.1) c.as_slice.ensures ∙ sym c.slice.ensures in
    let is : slice_get (raw_documents (blocks_of bytes)) c.args.doc ≡ Some c.slice.result = ap (λ l. slice_get (raw_documents (blocks_of l)) c.args.doc) (sym c.as_slice.ensures) ∙ c.document_place-start.ensures.is ∙ ap Some part in
    stored_at bytes c.args.doc c.slice.result c.self.invariant is

pub returns-clause-reads : goal.returns-clause-reads
returns-clause-reads c =
    let bytes = c.self.inside.bytes in
    let part = ap (λ l. slice_range l c.document_place-start.result.0 c.document_place-start.result.1) c.as_slice.ensures ∙ sym c.slice.ensures in
    let is : slice_get (raw_documents (blocks_of bytes)) c.args.doc ≡ Some c.slice.result = ap (λ l. slice_get (raw_documents (blocks_of l)) c.args.doc) (sym c.as_slice.ensures) ∙ c.document_place-start.ensures.is ∙ ap Some part in
    ap (λ bs. slice_get (documents_of bs) c.args.doc) (sym c.self.view_is) ∙ document_read bytes c.args.doc c.slice.result c.self.invariant is
