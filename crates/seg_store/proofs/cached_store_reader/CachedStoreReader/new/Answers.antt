use Rattle.std.proofs.Common.{[], ap, ◌∙◌, sym}
use Rattle.std.specs.List.{list_all}
use Rattle.std.proofs.lemmas.List.Elements.{All-nil, All-same}
use Rattle.seg_store.specs.CachedBlocks.{IsBlockOf}
use Rattle.seg_store.specs.Store.{raw_documents}
use Rattle.seg_doc_bytes.specs.StoredDocument.{is_stored_document}
use Rattle.seg_store.proofs.MadeDocuments.{all_are_stored}
use Rattle.seg_store.proofs.cached_store_reader.CachedStoreReader.new.Goals as goal

pub invariant_of-result : goal.invariant_of-result
invariant_of-result c =
    let blocks = c.args.store in
    let stored = ap (λ bs. list_all is_stored_document (raw_documents bs)) (sym c.store.view_is) ∙ all_are_stored c.store.inside.bytes c.store.invariant in
    (stored, All-same (IsBlockOf blocks) c.in_ok-cache.cache.pairs [] (ap (λ b. b.pairs) c.in_ok-cache.ensures) (All-nil (IsBlockOf blocks)))
