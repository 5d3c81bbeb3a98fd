use Rattle.std.proofs.Common.{◌≡◌, ◌++◌, ◌∷◌, [], take, true, false, refl, ap, sym, ◌∙◌, subst}
use Rattle.std.specs.Prelude.{is_none}
use Rattle.std.specs.List.{slice_get}
use Rattle.seg_values.specs.ValueTrees.{tree_of}
use Rattle.seg_model.specs.DocumentCheck.{json_refusal, positions_refusal}
use Rattle.seg_check.specs.DocumentFields.{HasCut}
use Rattle.seg_check.proofs.DocumentFields.{none-following, none-here, rises-on, falls, take-more}
use Rattle.seg_check.proofs.positions.cut_texts.Goals as goal

pub loop-at-init : goal.loop-at-init
loop-at-init g c = record { order = refl; json = c.requires.json; cut = c.new-cut.ensures c.args.schema.now (g.Z.Analyzers.tokens_of c.args.analyzers.now) c.args.document.now }

pub returns-then-not-branch-clause-order : goal.returns-then-not-branch-clause-order
returns-then-not-branch-clause-order g c =
    let F = g.Z.Analyzers.tokens_of c.args.analyzers.now in
    let schema = c.args.schema.now in
    let field = c.pair-field.result.0 in
    let t = tree_of c.pair-field.result.1.now in
    let here : is_none (positions_refusal F t (slice_get schema field)) ≡ false = ap (λ s. is_none (positions_refusal F t (slice_get s field))) (sym c.fields.ensures) ∙ sym c.in_ok-add_pair.ensures.order ∙ c.if-not-branch.true in
    falls schema F c.args.document.now c.loop-at.at field t c.pair-field.ensures here ∙ ap is_none c.loop-at.invariant.order

pub add_pair-requires-clause-json : goal.add_pair-requires-clause-json
add_pair-requires-clause-json g c =
    let schema = c.args.schema.now in
    let field = c.pair-field.result.0 in
    let t = tree_of c.pair-field.result.1.now in
    ap (λ s. json_refusal t (slice_get s field)) c.fields.ensures
    ∙ none-here schema c.args.document.now c.loop-at.at field t c.pair-field.ensures c.loop-at.invariant.json

pub loop-at-preserved : goal.loop-at-preserved
loop-at-preserved g c =
    let F = g.Z.Analyzers.tokens_of c.args.analyzers.now in
    let schema = c.args.schema.now in
    let document = c.args.document.now in
    let i = c.loop-at.at in
    let field = c.pair-field.result.0 in
    let t = tree_of c.pair-field.result.1.now in
    let new = c.add_pair.new.self in
    let same = c.fields.ensures in
    let here : is_none (positions_refusal F t (slice_get schema field)) ≡ true = ap (λ s. is_none (positions_refusal F t (slice_get s field))) (sym same) ∙ sym c.in_ok-add_pair.ensures.order ∙ c.if-not-branch.false in
    let before = subst (λ s. HasCut s F document (take i document) c.loop-at.cut) (sym same) c.loop-at.invariant.cut in
    let after = subst (λ s. HasCut s F document (take i document ++ (field, t) ∷ []) new) same (c.in_ok-add_pair.ensures.cut c.if-not-branch.false document (take i document) c.pair-field.ensures before) in
    record {
      json = none-following schema document i field t c.pair-field.ensures c.loop-at.invariant.json;
      order = rises-on schema F document i field t c.pair-field.ensures here ∙ c.loop-at.invariant.order;
      cut = subst (λ came. HasCut schema F document came new) (sym (take-more schema F document i field t c.pair-field.ensures)) after;
    }
