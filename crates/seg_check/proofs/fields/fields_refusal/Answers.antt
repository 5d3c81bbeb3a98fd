use Rattle.std.proofs.Common.{ℕ, ap, sym, ◌∙◌}
use Rattle.std.specs.List.{slice_get}
use Rattle.seg_values.specs.Tree.{Tree}
use Rattle.seg_values.specs.ValueTrees.{tree_of}
use Rattle.seg_model.specs.DocumentCheck.{at_place, value_refusal}
use Rattle.seg_check.proofs.FirstRefusals.{one_passes, one_stops}
use Rattle.seg_check.proofs.fields.fields_refusal.Goals as goal

pub loop-at-preserved : goal.loop-at-preserved
loop-at-preserved c =
    one_passes c.args.place (λ (p : ℕ × Tree). value_refusal p.0 p.1 (slice_get c.args.schema.now p.0)) c.args.document.now c.loop-at.at (c.pair-field.result.0, tree_of c.pair-field.result.1.now) c.pair-field.ensures
    c.value_refusal-refusal.result c.value_refusal-refusal.ensures (sym c.is_some.ensures ∙ c.if-is_some.false) ∙ c.loop-at.invariant

pub returns-then-is_some : goal.returns-then-is_some
returns-then-is_some c =
    one_stops c.args.place (λ (p : ℕ × Tree). value_refusal p.0 p.1 (slice_get c.args.schema.now p.0)) c.args.document.now c.loop-at.at (c.pair-field.result.0, tree_of c.pair-field.result.1.now) c.pair-field.ensures
    c.value_refusal-refusal.result c.value_refusal-refusal.ensures (sym c.is_some.ensures ∙ c.if-is_some.true) ∙ ap (at_place c.args.place) c.loop-at.invariant
