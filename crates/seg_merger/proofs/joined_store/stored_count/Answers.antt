use Rattle.std.proofs.Common.{◌≡◌, Bool, length, sym, ap, ◌∙◌, arith}
use Rattle.std.specs.List.{list_all}
use Rattle.std.proofs.lemmas.Bool.{and_parts}
use Rattle.seg_store.specs.Store.{document_count, documents_of, raw_documents}
use Rattle.seg_merger.proofs.KeptLists.{kept_all}
use Rattle.seg_merger.proofs.StoredDocuments.{kept_are_read, raw_counted}
use Rattle.seg_merger.proofs.joined_store.stored_count.Goals as goal

pub returns-clause-stored : goal.returns-clause-stored
returns-clause-stored c =
    let part = c.args.part.now in
    let blocks = part.blocks in
    let same : c.store_reader.result.now ≡ blocks = c.store_reader.ensures in
    let all : document_count blocks ≡ length (documents_of blocks) = sym (ap document_count same) ∙ sym c.num_docs.ensures.counted ∙ c.num_docs.ensures.documents ∙ ap (λ bs. length (documents_of bs)) same in
    let marks : length part.alive ≡ length (raw_documents blocks) = omega (arith, c.documents_are_marked.ensures, c.contents_have_full_shape.ensures.stored, all, raw_counted blocks) in
    record {
      reads = kept_are_read part.alive blocks all;
      whole = λ stacks. kept_all part.alive (raw_documents blocks) (and_parts (list_all (λ (b : Bool). b) part.alive) _ stacks).0 marks;
    }
