use Rattle.std.proofs.Common.{◌≡◌, drop}
use Rattle.seg_values.specs.Tree.{levels, trees_from}
use Rattle.seg_values.specs.ValueTrees.{tree_of}
use Rattle.seg_model.specs.AcceptedTrees.{are_own_arrays}
use Rattle.seg_check.proofs.kinds.+is_own_array.Given as goal

abbrev pub decreases-is_own_array : goal.decreases-is_own_array
decreases-is_own_array l = levels (tree_of l.value.now)

-- what is left decides
abbrev pub invariant-loop-at : goal.invariant-loop-at
invariant-loop-at l = are_own_arrays l.kind (trees_from (drop l.at l.values)) ≡ are_own_arrays l.kind (trees_from l.values)
