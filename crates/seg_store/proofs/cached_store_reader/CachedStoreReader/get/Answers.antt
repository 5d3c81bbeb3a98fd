use Rattle.std.proofs.Common.{◌≡◌, take, slice_get, Some, sym, ap, ◌∙◌}
use Rattle.std.specs.Option.{option_and_then}
use Rattle.std.proofs.lemmas.Result.{IfOk-weaker}
use Rattle.seg_store.specs.Block.{documents_in}
use Rattle.seg_doc_bytes.specs.StoredDocument.{stored_document_of}
use Rattle.seg_store.specs.Store.{document_count, documents_of}
use Rattle.seg_store.proofs.DocumentPlaces.{raw_in_block}
use Rattle.seg_store.proofs.MadeDocuments.{stored_read}
use Rattle.seg_store.proofs.cached_store_reader.CachedStoreReader.get.Goals as goal

pub document_in_block-requires-clause-within : goal.document_in_block-requires-clause-within
document_in_block-requires-clause-within c =
    let blocks = c.self.inside.store in
    let number = c.block_number-number.result in
    let same : c.self-2.inside.store ≡ blocks = ap (λ r. r.blocks) (c.self-2.view_is ∙ c.in_ok-block.ensures.used) ∙ ap (λ r. r.blocks) (sym c.self.view_is) in
    let is = ap (λ r. slice_get r.blocks number) c.self.view_is ∙ c.in_ok-block.ensures.is ∙ ap (λ b. Some (documents_in b)) (sym c.as_slice.ensures) in
    (raw_in_block blocks c.as_slice.result.now number c.first_document.result c.args.doc is (c.first_document.ensures ∙ ap (λ bs. document_count (take number bs)) same)
    c.block_number-number.ensures.from c.block_number-number.ensures.to).1

pub returns-clause-ok : goal.returns-clause-ok
returns-clause-ok c =
    let blocks = c.self.inside.store in
    let number = c.block_number-number.result in
    let same : c.self-2.inside.store ≡ blocks = ap (λ r. r.blocks) (c.self-2.view_is ∙ c.in_ok-block.ensures.used) ∙ ap (λ r. r.blocks) (sym c.self.view_is) in
    let is = ap (λ r. slice_get r.blocks number) c.self.view_is ∙ c.in_ok-block.ensures.is ∙ ap (λ b. Some (documents_in b)) (sym c.as_slice.ensures) in
    let raw = (raw_in_block blocks c.as_slice.result.now number c.first_document.result c.args.doc is (c.first_document.ensures ∙ ap (λ bs. document_count (take number bs)) same)
    c.block_number-number.ensures.from c.block_number-number.ensures.to).0 in
    let read = ap (λ r. slice_get (documents_of r.blocks) c.args.doc) (sym c.self.view_is) ∙ stored_read blocks c.args.doc c.self.invariant.0 ∙ ap (option_and_then stored_document_of) raw in
    IfOk-weaker c.document_in_block.result _ _ (λ d is. read ∙ is) c.document_in_block.ensures.ok
