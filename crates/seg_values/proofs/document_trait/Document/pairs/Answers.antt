use Rattle.std.proofs.Common.{ℕ, [], ◌∷◌, ◌++◌, sym, ap, ◌∙◌}
use Rattle.seg_common.proofs.Lists.{take-slice_get}
use Rattle.seg_values.specs.Tree.{Tree}
use Rattle.seg_values.specs.ValueTrees.{tree_of}
use Rattle.seg_values.proofs.document_trait.Document.pairs.Goals as goal

pub loop-at-preserved : goal.loop-at-preserved
loop-at-preserved g c =
    let p : ℕ × Tree = (c.pair-field.result.0, tree_of c.pair-field.result.1.now) in
    c.in_ok-push.ensures.ok ∙ ap (λ ps. ps ++ p ∷ []) c.loop-at.invariant
    ∙ sym (take-slice_get (g.Self.Document.pairs_of c.args.self.now) c.loop-at.at p c.pair-field.ensures)
