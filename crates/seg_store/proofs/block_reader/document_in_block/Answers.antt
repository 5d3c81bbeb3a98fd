use Rattle.std.proofs.Common.{◌≡◌, None, Some, subst, slice_range}
use Rattle.std.specs.Prelude.{MatchOption}
use Rattle.seg_store.specs.Block.{documents_in}
use Rattle.seg_doc_bytes.specs.StoredDocument.{is_stored_document, stored_document_of}
use Rattle.seg_store.proofs.DocumentPlaces.{block_facts}
use Rattle.seg_store.proofs.MadeDocuments.{not_stored}
use Rattle.seg_store.proofs.PartPlaces.{passes_at}
use Rattle.seg_store.proofs.block_reader.document_in_block.Goals as goal

pub returns-in_default-clause-err : goal.returns-in_default-clause-err
returns-in_default-clause-err c =
    let block = c.args.block.now in
    let raw = slice_range block c.place_in_block-start.result.0 c.place_in_block-start.result.1 in
    let stored = passes_at is_stored_document (documents_in block) c.args.index raw (block_facts block c.requires.block).stored c.place_in_block-start.ensures.is in
    let none = subst (λ o. MatchOption o (stored_document_of raw ≡ None) (λ d. stored_document_of raw ≡ Some d)) c.in_default.is c.in_ok-document.ensures in
    absurd (not_stored raw stored none)
