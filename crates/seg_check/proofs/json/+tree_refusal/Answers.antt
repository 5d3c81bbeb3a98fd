use Rattle.std.proofs.Common.{◌<◌, ap, sym, ◌∙◌, arith}
use Rattle.seg_values.specs.Tree.{levels, array, object, trees_from, members_from}
use Rattle.seg_values.specs.ValueTrees.{tree_of}
use Rattle.seg_values.proofs.Exports.{levels-at, member_levels-at}
use Rattle.seg_model.specs.DocumentCheck.{at_place, has_no_zero, tree_refusal}
use Rattle.seg_check.proofs.JsonTrees.{tree_passes, member_passes, tree_refused, member_refused, key_refused}
use Rattle.seg_check.proofs.json.+tree_refusal.Goals as goal

pub tree_refusal-requires : goal.tree_refusal-requires
tree_refusal-requires t c =
    let below : levels (tree_of c.get.result.now) < levels (array (trees_from c.in-Array.values)) = levels-at c.in-Array.values c.loop-at.at (tree_of c.get.result.now) c.get.ensures in
    let is = ap (λ v. levels (tree_of v)) c.in-Array.is in
    (omega (arith, c.decreases, is, below), tt)

pub loop-at-preserved : goal.loop-at-preserved
loop-at-preserved t c = tree_passes c.args.place c.tree_refusal.result (tree_of c.get.result.now) c.tree_refusal.ensures c.in_default-tree_refusal.not-Some c.in-Array.values c.loop-at.at c.get.ensures ∙ c.loop-at.invariant

pub tree_refusal-requires-in-loop-index : goal.tree_refusal-requires-in-loop-index
tree_refusal-requires-in-loop-index t c =
    let child = c.get-in-loop-index.result.1.now in
    let below : levels (tree_of child) < levels (object (members_from c.in-Object.members)) = member_levels-at c.in-Object.members c.loop-index.index (c.get-in-loop-index.result.0.now, tree_of child) c.get-in-loop-index.ensures in
    let is = ap (λ v. levels (tree_of v)) c.in-Object.is in
    (omega (arith, c.decreases, is, below), tt)

pub loop-index-preserved : goal.loop-index-preserved
loop-index-preserved t c =
    let child = c.get-in-loop-index.result.1.now in
    member_passes c.args.place c.tree_refusal-in-loop-index.result (tree_of child) c.tree_refusal-in-loop-index.ensures c.in_default-tree_refusal-2.not-Some c.in-Object.members c.loop-index.index c.get-in-loop-index.result.0.now c.get-in-loop-index.ensures
    (ap has_no_zero (sym c.as_bytes.ensures.value) ∙ sym c.has_no_zero.ensures ∙ c.if-not-has_no_zero.false) ∙ c.loop-index.invariant

pub returns-in-Some : goal.returns-in-Some
returns-in-Some t c =
    tree_refused c.args.place c.tree_refusal.result (tree_of c.get.result.now) c.tree_refusal.ensures c.in-Some.refusal c.in-Some.is c.in-Array.values c.loop-at.at c.get.ensures
    ∙ ap (at_place c.args.place) (c.loop-at.invariant ∙ ap (λ v. tree_refusal (tree_of v)) (sym c.in-Array.is))

pub returns-then-not-has_no_zero : goal.returns-then-not-has_no_zero
returns-then-not-has_no_zero t c =
    key_refused c.args.place c.in-Object.members c.loop-index.index c.get-in-loop-index.result.0.now (tree_of c.get-in-loop-index.result.1.now) c.get-in-loop-index.ensures
    (ap has_no_zero (sym c.as_bytes.ensures.value) ∙ sym c.has_no_zero.ensures ∙ c.if-not-has_no_zero.true)
    ∙ ap (at_place c.args.place) (c.loop-index.invariant ∙ ap (λ v. tree_refusal (tree_of v)) (sym c.in-Object.is))

pub returns-in-Some-tree_refusal : goal.returns-in-Some-tree_refusal
returns-in-Some-tree_refusal t c =
    member_refused c.args.place c.tree_refusal-in-loop-index.result (tree_of c.get-in-loop-index.result.1.now) c.tree_refusal-in-loop-index.ensures c.in-Some-tree_refusal.refusal c.in-Some-tree_refusal.is c.in-Object.members c.loop-index.index c.get-in-loop-index.result.0.now c.get-in-loop-index.ensures
    (ap has_no_zero (sym c.as_bytes.ensures.value) ∙ sym c.has_no_zero.ensures ∙ c.if-not-has_no_zero.false)
    ∙ ap (at_place c.args.place) (c.loop-index.invariant ∙ ap (λ v. tree_refusal (tree_of v)) (sym c.in-Object.is))
