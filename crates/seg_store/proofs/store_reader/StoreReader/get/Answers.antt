use Rattle.std.proofs.Common.{◌≡◌, true, Some, None, sym, ap, ◌∙◌, subst, slice_range}
use Rattle.std.specs.Prelude.{MatchOption}
use Rattle.std.specs.List.{slice_get}
use Rattle.seg_store.specs.Store.{is_store, blocks_of, documents_of}
use Rattle.seg_doc_bytes.specs.StoredDocument.{stored_document_of}
use Rattle.seg_store.proofs.DocumentPlaces.{stored_at}
use Rattle.seg_store.proofs.MadeDocuments.{document_read, not_stored}
use Rattle.seg_store.proofs.store_reader.StoreReader.get.Goals as goal

pub returns-in_default-clause-err : goal.returns-in_default-clause-err
returns-in_default-clause-err c =
    let bytes = c.as_slice-bytes.result.now in
    let raw = slice_range bytes c.document_place-start.result.0 c.document_place-start.result.1 in
    let store : is_store bytes ≡ true = ap is_store c.as_slice-bytes.ensures ∙ c.self.invariant in
    let none = subst (λ o. MatchOption o (stored_document_of raw ≡ None) (λ d. stored_document_of raw ≡ Some d)) c.in_default.is c.in_ok-document.ensures in
    absurd (not_stored raw (stored_at bytes c.args.doc raw store c.document_place-start.ensures.is) none)

pub returns-clause-ok : goal.returns-clause-ok
returns-clause-ok c =
    let bytes = c.as_slice-bytes.result.now in
    let raw = slice_range bytes c.document_place-start.result.0 c.document_place-start.result.1 in
    let store : is_store bytes ≡ true = ap is_store c.as_slice-bytes.ensures ∙ c.self.invariant in
    let made = subst (λ o. MatchOption o (stored_document_of raw ≡ None) (λ d. stored_document_of raw ≡ Some d)) c.in-Some.is c.in_ok-document.ensures in
    let view = ap blocks_of c.as_slice-bytes.ensures ∙ c.self.view_is in
    ap (λ bs. slice_get (documents_of bs) c.args.doc) (sym view) ∙ document_read bytes c.args.doc raw store c.document_place-start.ensures.is ∙ made
