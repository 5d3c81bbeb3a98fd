use Rattle.std.proofs.Common.{◌≡◌, ℕ, List, ◌++◌, map, drop}
use Rattle.seg_values.specs.Tree.{levels, trees_from, members_from}
use Rattle.seg_values.specs.ValueTrees.{tree_of}
use Rattle.seg_model.specs.Leaves.{PlacedLeaf, leaves_of_trees, leaves_of_members}
use Rattle.seg_paths.specs.NumberedLeaves.{numbered, in_table, IsPathOf}
use Rattle.seg_paths.specs.Paths.{Extends}
use Rattle.seg_paths.proofs.FoundLeaves.{HasFound}
use Rattle.seg_paths.proofs.leaves.+push_leaves.Given as goal

abbrev pub decreases-push_leaves : goal.decreases-push_leaves
decreases-push_leaves l = levels (tree_of l.value.now)

-- what is found so far, with what is left, is all
abbrev pub invariant-loop-at : goal.invariant-loop-at
invariant-loop-at l = record {
  extends : Extends l.fn.table l.table;
  found : (keys : List (List ℕ)) (level : ℕ) (found : List PlacedLeaf)
      → IsPathOf l.fn.table l.expand_dots l.fn.above keys
      → map numbered l.fn.out.items ≡ map (in_table l.fn.table l.expand_dots) found
      → HasFound l.expand_dots l.table l.out.items (leaves_of_trees keys level (trees_from (drop l.at l.values)))
      (found ++ leaves_of_trees keys level (trees_from l.values));
}

abbrev pub invariant-loop-index : goal.invariant-loop-index
invariant-loop-index l = record {
  extends : Extends l.fn.table l.table;
  found : (keys : List (List ℕ)) (level : ℕ) (found : List PlacedLeaf)
      → IsPathOf l.fn.table l.expand_dots l.fn.above keys
      → map numbered l.fn.out.items ≡ map (in_table l.fn.table l.expand_dots) found
      → HasFound l.expand_dots l.table l.out.items (leaves_of_members keys level (members_from
      (drop l.index l.members))) (found ++ leaves_of_members keys level (members_from l.members));
}
