-- How many trees and members a value has.
use Rattle.std.proofs.Common.{◌≡◌, ℕ, suc, List, [], ◌∷◌, length, refl, ap}
use Rattle.seg_values.specs.Tree.{Tree, trees_from, members_from}
use Rattle.seg_values.specs.StoredBytes.{tree_count, member_count}

-- as many trees as are in the list
pub count_trees : (ts : List Tree) → tree_count (trees_from ts) ≡ length ts
count_trees [] = refl
count_trees (t ∷ ts) = ap suc (count_trees ts)

-- as many members as are in the list
pub count_members : (ms : List (List ℕ × Tree)) → member_count (members_from ms) ≡ length ms
count_members [] = refl
count_members (m ∷ ms) = ap suc (count_members ms)
