use Rattle.std.proofs.Common.{Bool, ap, ◌∙◌, arith}
use Rattle.std.specs.List.{list_all}
use Rattle.seg_columns.proofs.MarkedOrdinals.{decided}
use Rattle.seg_columns.proofs.used_ordinals.uses_each.Goals as goal

pub returns : goal.returns
returns c =
    let done = c.loop-doc.invariant in
    decided c.args.count c.loop-doc.doc c.args.ords.now c.loop-doc.used.items c.are_true.result
    (c.are_true.ensures ∙ ap (list_all (λ (m : Bool). m)) c.as_slice.ensures.value) done.long
    (omega (arith, c.loop-doc-test.false, c.num_docs-doc-end.ensures)) done.below done.marks
