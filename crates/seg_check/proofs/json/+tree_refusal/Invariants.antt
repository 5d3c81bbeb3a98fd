use Rattle.std.proofs.Common.{◌≡◌, drop}
use Rattle.seg_values.specs.Tree.{levels, trees_from, members_from}
use Rattle.seg_values.specs.ValueTrees.{tree_of}
use Rattle.seg_model.specs.DocumentCheck.{trees_refusal, members_refusal}
use Rattle.seg_check.proofs.json.+tree_refusal.Given as goal

abbrev pub decreases-tree_refusal : goal.decreases-tree_refusal
decreases-tree_refusal l = levels (tree_of l.value.now)

-- what is left decides
abbrev pub invariant-loop-at : goal.invariant-loop-at
invariant-loop-at l = trees_refusal (trees_from (drop l.at l.values)) ≡ trees_refusal (trees_from l.values)

abbrev pub invariant-loop-index : goal.invariant-loop-index
invariant-loop-index l = members_refusal (members_from (drop l.index l.members)) ≡ members_refusal (members_from l.members)
