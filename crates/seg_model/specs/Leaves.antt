-- The leaves of a tree, from left to right, each with the keys above it.
use Rattle.std.specs.Prelude.{ℕ, zero, suc, List, [], ◌∷◌, ◌++◌}
use Rattle.std.specs.List.{flat_map}
pub use Rattle.seg_common.specs.JsonPaths.{dot_expanded, joined_path}
use Rattle.seg_values.specs.Tree.{Leaf, Tree, leaf, array, object, Trees, no_trees, tree, Members, no_members, member}

-- a leaf, the keys from the root to it, and its level below the first object: 0 where there is none
pub record PlacedLeaf : Type 0 where
  pub keys : List (List ℕ)
  pub level : ℕ
  pub leaf : Leaf

-- the level of an array's values: an array above the first object has none
abbrev pub level_in_array : ℕ → ℕ
level_in_array zero = zero
level_in_array (suc level) = suc (suc level)

-- the leaves of a tree that is below these keys, at this level
abbrev mutual
  pub leaves_at : List (List ℕ) → ℕ → Tree → List PlacedLeaf
  leaves_at keys level (leaf l) = record { keys = keys; level = level; leaf = l } ∷ []
  leaves_at keys level (array ts) = leaves_of_trees keys (level_in_array level) ts
  leaves_at keys level (object ms) = leaves_of_members keys (suc level) ms

  pub leaves_of_trees : List (List ℕ) → ℕ → Trees → List PlacedLeaf
  leaves_of_trees keys level no_trees = []
  leaves_of_trees keys level (tree t ts) = leaves_at keys level t ++ leaves_of_trees keys level ts

  pub leaves_of_members : List (List ℕ) → ℕ → Members → List PlacedLeaf
  leaves_of_members keys level no_members = []
  leaves_of_members keys level (member key t ms) = leaves_at (keys ++ key ∷ []) level t
      ++ leaves_of_members keys level ms

-- the leaves of a tree
abbrev pub leaves : Tree → List PlacedLeaf
leaves t = leaves_at [] 0 t

-- the leaves of the values of a field, in order
abbrev pub leaves_of : List Tree → List PlacedLeaf
leaves_of values = flat_map leaves values
