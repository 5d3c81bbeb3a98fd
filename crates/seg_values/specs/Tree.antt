-- A tree of values: a leaf, a list of trees, or a list of keys with trees.
use Rattle.std.specs.Prelude.{ℕ, suc, max, ℤ, Bool, List, [], ◌∷◌}
use Rattle.seg_tokens.specs.declared.token.PreTokenizedString.{PreTokenizedString}

-- texts, bytes and facets are their bytes, a moment its nanoseconds since 1970, an address its sixteen octets
pub data Leaf : Type 0 where
  null : Leaf
  text : List ℕ → Leaf
  pre_tokenized : PreTokenizedString → Leaf
  unsigned : ℕ → Leaf
  signed : ℤ → Leaf
  boolean : Bool → Leaf
  date : ℤ → Leaf
  facet : List ℕ → Leaf
  byte_string : List ℕ → Leaf
  ip : List ℕ → Leaf

mutual
  pub data Tree : Type 0 where
    leaf : Leaf → Tree
    array : Trees → Tree
    object : Members → Tree

  pub data Trees : Type 0 where
    no_trees : Trees
    tree : Tree → Trees → Trees

  pub data Members : Type 0 where
    no_members : Members
    member : List ℕ → Tree → Members → Members

-- a plain list as the trees of an array
abbrev pub trees_from : List Tree → Trees
trees_from [] = no_trees
trees_from (t ∷ ts) = tree t (trees_from ts)

abbrev pub members_from : List (List ℕ × Tree) → Members
members_from [] = no_members
members_from (m ∷ ms) = member m.0 m.1 (members_from ms)

-- the levels of a tree: a leaf is level 1
abbrev mutual
  pub levels : Tree → ℕ
  levels (leaf l) = 1
  levels (array ts) = suc (most_levels ts)
  levels (object ms) = suc (most_member_levels ms)

  pub most_levels : Trees → ℕ
  most_levels no_trees = 0
  most_levels (tree t ts) = max (levels t) (most_levels ts)

  pub most_member_levels : Members → ℕ
  most_member_levels no_members = 0
  most_member_levels (member k t ms) = max (levels t) (most_member_levels ms)

-- a document: its fields with their values, in order
abbrev pub Document : Type 0
Document = List (ℕ × Tree)
