-- The leaves of a JSON field, each with its joined path.
use Rattle.std.specs.Prelude.{◌≡◌, ◌≤◌, ℕ, List, [], map, filter, length, Bool, ◌&&◌, Option, Some, None, if◌then◌else◌}
use Rattle.std.specs.List.{AllByRecursion, flat_map, list_all, slice_index_or}
use Rattle.std.specs.Str.{bytes_eq}
use Rattle.seg_values.specs.Tree.{Leaf}
use Rattle.seg_values.specs.ValueTrees.{tree_of}
use Rattle.seg_tokens.specs.declared.token.Token.{Token}
use Rattle.seg_model.specs.DocumentCheck.{is_u32, texts_fit}
use Rattle.seg_model.specs.Leaves.{PlacedLeaf, joined_path}
use Rattle.seg_model.specs.Occurrences.{leaf_text}
use Rattle.seg_paths.specs.NumberedLeaves.{leaf_in}
use Rattle.seg_paths.specs.Paths.{number_of}
use Rattle.seg_paths.specs.declared.leaves.NumberedLeaf.{NumberedLeaf}
use Rattle.seg_check.specs.TotalsOfFields.{totals_of, no_totals}
use Rattle.seg_check.specs.declared.totals.Totals.{Totals}
use Rattle.seg_check.specs.declared.paths.PathTotals.{PathTotals}

-- a leaf with its joined path
abbrev pub at_path : Bool → PlacedLeaf → List ℕ × Leaf
at_path expand_dots p = (joined_path expand_dots p.keys, p.leaf)

-- the leaves with a joined path
abbrev pub on_path : List ℕ → List (List ℕ × Leaf) → List (List ℕ × Leaf)
on_path path found = filter (λ p. bytes_eq path p.0) found

module _ (analyze : List ℕ → List Token) where
  -- the texts of leaves, each as its tokens
  abbrev pub texts_of : List (List ℕ × Leaf) → List (List Token)
  texts_of found = flat_map (λ p. map analyze (leaf_text p.1)) found

  -- the texts at a joined path
  abbrev pub path_texts : List ℕ → List (List ℕ × Leaf) → List (List Token)
  path_texts path found = flat_map (λ p. if bytes_eq path p.0 then map analyze (leaf_text p.1) else []) found

  -- what came at a joined path
  abbrev pub totals_on : List ℕ → List (List ℕ × Leaf) → Totals
  totals_on path found = totals_of (length (on_path path found)) (path_texts path found)

  -- the texts and the leaves at a joined path are within the limits
  abbrev pub fits_on : List (List ℕ × Leaf) → List ℕ → Bool
  fits_on found path = texts_fit (path_texts path found) && is_u32 (length (on_path path found))

  -- and so at each path
  abbrev pub paths_fit : List (List ℕ × Leaf) → Bool
  paths_fit found = list_all (λ p. fits_on found p.0) found

-- ---- by the numbers of paths

-- a leaf with the joined path that has its number
abbrev pub path_leaf : List (List ℕ) → NumberedLeaf → List ℕ × Leaf
path_leaf paths l = (slice_index_or paths l.path [], leaf_in (tree_of l.leaf.now))

-- the number of a leaf is that of its joined path
abbrev pub IsNumbered : List (List ℕ) → NumberedLeaf → Type 0
IsNumbered paths l = number_of paths (slice_index_or paths l.path []) ≡ Some l.path

-- leaves with the numbers of their joined paths
pub record AreLeaves (paths : List (List ℕ)) (found : List (List ℕ × Leaf)) (leaves : List NumberedLeaf) : Type 0 where
  pub are : map (path_leaf paths) leaves ≡ found
  pub numbered : AllByRecursion (IsNumbered paths) leaves

-- what totals say about a number
abbrev pub total_in : List Totals → Option ℕ → Totals
total_in totals None = no_totals
total_in totals (Some number) = slice_index_or totals number no_totals

-- what they say about a joined path
abbrev pub total_at : PathTotals → List ℕ → Totals
total_at paths path = total_in paths.totals.items (number_of paths.table path)

-- the totals of paths tell of these leaves
pub record PathsStand (analyze : List ℕ → List Token) (paths : PathTotals) (found : List (List ℕ × Leaf)) : Type 0 where
  pub at : (path : List ℕ) → total_at paths path ≡ totals_on analyze path found
  pub few : length paths.totals.items ≤ length paths.table
  pub within : paths.are_within ≡ paths_fit analyze found
