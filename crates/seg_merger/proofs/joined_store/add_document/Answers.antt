use Rattle.std.proofs.Common.{Some, sym, ap, ◌∙◌}
use Rattle.std.specs.List.{slice_get}
use Rattle.seg_store.specs.Store.{raw_documents}
use Rattle.seg_merger.proofs.JoinedStores.{one_stored}
use Rattle.seg_merger.proofs.joined_store.add_document.Goals as goal

pub returns-clause-ok : goal.returns-clause-ok
returns-clause-ok c =
    let part = c.args.part.now in
    let doc = c.args.doc in
    one_stored c.store_bytes.result part.alive (raw_documents part.blocks) doc c.as_slice-2.result.now c.args.writer.now c.store_bytes.new.self
    (sym c.is_alive.ensures ∙ c.if-not-is_alive.false)
    (ap (λ bs. slice_get (raw_documents bs) doc) (sym c.store_reader.ensures) ∙ c.raw.ensures.is ∙ ap Some (sym c.as_slice-2.ensures))
    c.store_bytes.ensures.ok
