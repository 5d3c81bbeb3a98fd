-- Trees that JSON tells as they are.
use Rattle.std.specs.Prelude.{ℕ, pos, negsuc, List, [], ◌∷◌}
use Rattle.std.specs.Cmp.Lexicographic.{slice_cmp}
use Rattle.std.specs.List.Sorted.{IsStrictlySortedBy}
use Rattle.std.specs.Ordering.{nat_cmp}
use Rattle.seg_values.specs.Tree.{Leaf, null, text, pre_tokenized, unsigned, signed, boolean, date, facet, byte_string, ip, Tree, leaf, array, object, Trees, no_trees, tree, Members, no_members, member}

-- nothing, a text, a truth value, an unsigned number or a negative one
abbrev pub IsToldLeaf : Leaf → Type 0
IsToldLeaf null = Unit {0}
IsToldLeaf (text s) = Unit {0}
IsToldLeaf (pre_tokenized p) = ⊥
IsToldLeaf (unsigned n) = Unit {0}
IsToldLeaf (signed (pos n)) = ⊥
IsToldLeaf (signed (negsuc n)) = Unit {0}
IsToldLeaf (boolean b) = Unit {0}
IsToldLeaf (date nanos) = ⊥
IsToldLeaf (facet encoded) = ⊥
IsToldLeaf (byte_string bytes) = ⊥
IsToldLeaf (ip octets) = ⊥

-- the keys of members
abbrev pub keys_of : Members → List (List ℕ)
keys_of no_members = []
keys_of (member k t ms) = k ∷ keys_of ms

-- such leaves, and lists and objects of them; the keys of an object strictly ascend
abbrev mutual
  pub IsToldByJson : Tree → Type 0
  IsToldByJson (leaf l) = IsToldLeaf l
  IsToldByJson (array ts) = AreToldByJson ts
  IsToldByJson (object ms) = IsStrictlySortedBy (slice_cmp nat_cmp) (keys_of ms) × AreMembersToldByJson ms

  pub AreToldByJson : Trees → Type 0
  AreToldByJson no_trees = Unit {0}
  AreToldByJson (tree t ts) = IsToldByJson t × AreToldByJson ts

  pub AreMembersToldByJson : Members → Type 0
  AreMembersToldByJson no_members = Unit {0}
  AreMembersToldByJson (member k t ms) = IsToldByJson t × AreMembersToldByJson ms
