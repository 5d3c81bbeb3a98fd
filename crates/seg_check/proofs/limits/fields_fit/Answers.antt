use Rattle.std.proofs.Common.{◌+◌, drop, sym, ap, ◌∙◌, arith}
use Rattle.std.specs.Prelude.{◌&&◌}
use Rattle.std.specs.List.{list_all, slice_get}
use Rattle.std.proofs.lemmas.List.{at_drop_all}
use Rattle.seg_values.specs.ValueTrees.{tree_of}
use Rattle.seg_check.specs.DocumentFields.{fits_at}
use Rattle.seg_check.proofs.FieldLimits.{left-fit, by-pairs}
use Rattle.seg_check.proofs.limits.fields_fit.Goals as goal

pub loop-at-preserved : goal.loop-at-preserved
loop-at-preserved c analyzer stand =
    let schema = c.args.schema.now in
    let document = c.args.document.now in
    let left = list_all (λ p. fits_at analyzer document p.0 (slice_get schema p.0)) (drop (c.loop-at.at + 1) document) in
    ap (λ b. b && left) (sym c.if-not-field_fits.false)
    ∙ sym (left-fit schema analyzer document c.loop-at.at c.pair-field.result.0 c.field_id.result (tree_of c.pair-field.result.1.now) c.field_fits.result c.pair-field.ensures c.field_id.ensures (c.field_fits.ensures analyzer document stand))
    ∙ c.loop-at.invariant analyzer stand

pub returns-then-not-field_fits : goal.returns-then-not-field_fits
returns-then-not-field_fits c analyzer stand =
    let schema = c.args.schema.now in
    let document = c.args.document.now in
    let left = list_all (λ p. fits_at analyzer document p.0 (slice_get schema p.0)) (drop (c.loop-at.at + 1) document) in
    ap (λ b. b && left) (sym c.if-not-field_fits.true)
    ∙ sym (left-fit schema analyzer document c.loop-at.at c.pair-field.result.0 c.field_id.result (tree_of c.pair-field.result.1.now) c.field_fits.result c.pair-field.ensures c.field_id.ensures (c.field_fits.ensures analyzer document stand))
    ∙ c.loop-at.invariant analyzer stand
    ∙ by-pairs schema analyzer document

pub returns : goal.returns
returns c analyzer stand =
    let schema = c.args.schema.now in
    let document = c.args.document.now in
    sym (at_drop_all (list_all (λ p. fits_at analyzer document p.0 (slice_get schema p.0))) document c.loop-at.at (omega (arith, c.len-at-end.ensures, c.loop-at-test.false)))
    ∙ c.loop-at.invariant analyzer stand
    ∙ by-pairs schema analyzer document
