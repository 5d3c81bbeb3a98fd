-- The nodes of a table of paths: each a part without a byte 0 or 1, below the path of a node before it or at the top.
use Rattle.std.specs.Prelude.{◌<◌, ℕ, List, [], ◌∷◌, ◌++◌, Bool, Option, None, nat_eq}
use Rattle.std.specs.Cmp.{IsEquivalence, nat_eq_equiv}
use Rattle.std.specs.Cmp.Lexicographic.{options_equiv}
use Rattle.std.specs.List.{AllByRecursion, slice_index_or}
use Rattle.std.specs.Option.{option_eq}
use Rattle.seg_column_format.specs.CompositeKeys.{Composite, key_eq, key_eq_equiv}
use Rattle.seg_paths.specs.Paths.{IsAbove, below}

-- a part, and at its head the number of the path that it is below, unless it is at the top
abbrev pub Node : Type 0
Node = Composite (Option ℕ)

-- ---- paths

-- the path of a node, by those of the nodes before it
abbrev pub node_path : List (List ℕ) → Node → List ℕ
node_path paths n = below paths n.head n.bytes

-- the paths of nodes, after those of the nodes before them
abbrev pub paths_with : List (List ℕ) → List Node → List (List ℕ)
paths_with before [] = before
paths_with before (n ∷ ns) = paths_with (before ++ node_path before n ∷ []) ns

-- all bytes are greater than 1
abbrev pub IsPart : List ℕ → Type 0
IsPart part = AllByRecursion (λ byte. 1 < byte) part

-- a part, below one of these paths or at the top
pub record IsSound (paths : List (List ℕ)) (n : Node) : Type 0 where
  pub above : IsAbove paths n.head
  pub part : IsPart n.bytes

-- and so is each, by the paths before it
abbrev pub AreSound : List (List ℕ) → List Node → Type 0
AreSound before [] = Unit {0}
AreSound before (n ∷ ns) = IsSound before n × AreSound (before ++ node_path before n ∷ []) ns

-- the part of the node with a number; past all nodes there is none
abbrev pub part_at : List Node → ℕ → List ℕ
part_at ns number = (slice_index_or ns number (record { head = None; bytes = [] })).bytes

-- ---- equality

abbrev pub node_eq : Node → Node → Bool
node_eq = key_eq (option_eq nat_eq)

pub node_eq_equiv : IsEquivalence node_eq
node_eq_equiv = key_eq_equiv (options_equiv nat_eq_equiv)
