-- The leaves of a value, each with the number of its joined path.
use Rattle.std.specs.Prelude.{◌≡◌, ◌<◌, ℕ, Bool, List, [], length, Option, None, Some}
use Rattle.seg_values.specs.Tree.{Leaf, null, Tree, leaf, array, object}
use Rattle.seg_values.specs.ValueTrees.{tree_of}
use Rattle.seg_model.specs.Leaves.{PlacedLeaf, joined_path}
use Rattle.seg_paths.specs.Paths.{number_of}
use Rattle.seg_paths.specs.declared.leaves.NumberedLeaf.{NumberedLeaf}

-- the leaf that a tree is
abbrev pub leaf_in : Tree → Leaf
leaf_in (leaf l) = l
leaf_in (array ts) = null
leaf_in (object ms) = null

-- a leaf that was found
abbrev pub numbered : NumberedLeaf → Option ℕ × Leaf
numbered l = (Some l.path, leaf_in (tree_of l.leaf.now))

-- a leaf with the number that its joined path has in a table
abbrev pub in_table : List (List ℕ) → Bool → PlacedLeaf → Option ℕ × Leaf
in_table paths expand_dots p = (number_of paths (joined_path expand_dots p.keys), p.leaf)

-- the number of the joined path of these keys; there is none at a root, which has no keys
abbrev pub IsPathOf : List (List ℕ) → Bool → Option ℕ → List (List ℕ) → Type 0
IsPathOf paths expand_dots None keys = keys ≡ []
IsPathOf paths expand_dots (Some number) keys = (0 < length keys) × (number_of paths (joined_path expand_dots keys)
    ≡ Some number)
