use Rattle.std.proofs.Common.{◌-◌, nat_le, sym, ap, ◌∙◌}
use Rattle.seg_values.specs.Tree.{levels, trees_from, members_from, most_levels, most_member_levels}
use Rattle.seg_values.specs.ValueTrees.{tree_of}
use Rattle.seg_check.proofs.TreeDepths.{level_more, tree_within, tree_past, member_within, member_past}
use Rattle.seg_check.proofs.levels.+is_within.Goals as goal

pub returns-then-not-is_within : goal.returns-then-not-is_within
returns-then-not-is_within t c =
    tree_past (c.args.most - 1) (tree_of c.get.result.now) c.in-Array.values c.loop-at.at c.get.ensures (sym c.is_within.ensures ∙ c.if-not-is_within.true)
    ∙ c.loop-at.invariant ∙ level_more (most_levels (trees_from c.in-Array.values)) c.args.most c.if-most-eq0.false ∙ ap (λ v. nat_le (levels (tree_of v)) c.args.most) (sym c.in-Array.is)

pub loop-at-preserved : goal.loop-at-preserved
loop-at-preserved t c =
    tree_within (c.args.most - 1) (tree_of c.get.result.now) c.in-Array.values c.loop-at.at c.get.ensures (sym c.is_within.ensures ∙ c.if-not-is_within.false) ∙ c.loop-at.invariant

pub returns-then-not-is_within-2 : goal.returns-then-not-is_within-2
returns-then-not-is_within-2 t c =
    member_past (c.args.most - 1) (tree_of c.get-in-loop-index.result.1.now) c.in-Object.members c.loop-index.index c.get-in-loop-index.result.0.now c.get-in-loop-index.ensures (sym c.is_within-in-loop-index.ensures ∙ c.if-not-is_within-2.true)
    ∙ c.loop-index.invariant ∙ level_more (most_member_levels (members_from c.in-Object.members)) c.args.most c.if-most-eq0.false ∙ ap (λ v. nat_le (levels (tree_of v)) c.args.most) (sym c.in-Object.is)

pub loop-index-preserved : goal.loop-index-preserved
loop-index-preserved t c =
    member_within (c.args.most - 1) (tree_of c.get-in-loop-index.result.1.now) c.in-Object.members c.loop-index.index c.get-in-loop-index.result.0.now c.get-in-loop-index.ensures (sym c.is_within-in-loop-index.ensures ∙ c.if-not-is_within-2.false) ∙ c.loop-index.invariant
