use Rattle.std.proofs.Common.{◌≡◌, ◌-◌, ◌*◌, ap, ◌∙◌, arith}
use Rattle.seg_common.specs.LittleEndian as numbers
use Rattle.seg_store.proofs.document_places.first_document.Goals as goal

pub returns-clause-after : goal.returns-clause-after
returns-clause-after c i is =
    let same : c.args.index - 1 ≡ i = omega (arith, is) in
    c.checkpoint_at.ensures.doc_end ∙ ap (λ k. numbers.u32_at c.args.table.now (12 * k)) same
