-- What is read of a value.
use Rattle.std.specs.Prelude.{ℕ, List}
use Rattle.std.specs.Net.Addr.{ipv6_octets}
use Rattle.seg_values.specs.Tree.{Tree, Leaf, leaf, array, object, null, text, pre_tokenized, unsigned, signed, boolean, date, facet, byte_string, ip, trees_from, members_from}
use Rattle.seg_access.specs.declared.value.ReferenceValueLeaf.{ReferenceValueLeaf}
use Rattle.seg_access.specs.declared.value.ReferenceValueLeaf.TheVariants.{Null, Str, PreTokStr, U64, I64, Bool, Date, Facet, Bytes, IpAddr}
use Rattle.seg_access.specs.declared.value.ReferenceValue.{ReferenceValue}
use Rattle.seg_access.specs.declared.value.ReferenceValue.TheVariants.{Leaf as AsLeaf, Array, Object}
use Rattle.seg_access.specs.declared.readable.Reading.{Reading}
use Rattle.seg_access.specs.declared.readable.Reading.TheVariants.{Leaf as OwnedLeaf, Array as Items, Object as Pairs}
use Rattle.seg_values.specs.ValueTrees.{tree_of}

-- a leaf, where its texts and bytes are lent
abbrev pub leaf_of : ReferenceValueLeaf → Leaf
leaf_of Null = null
leaf_of (Str s) = text s.now
leaf_of (PreTokStr p) = pre_tokenized p.now
leaf_of (U64 n) = unsigned n
leaf_of (I64 z) = signed z
leaf_of (Bool b) = boolean b
leaf_of (Date z) = date z
leaf_of (Facet s) = facet s.now
leaf_of (Bytes b) = byte_string b.now
leaf_of (IpAddr a) = ip (ipv6_octets a)

-- the tree that is read, by what is left of the values of an array and of an object
abbrev pub tree_read : {V A O : Type 0} → (A → List Tree) → (O → List (List ℕ × Tree)) → ReferenceValue V A O → Tree
tree_read array_left object_left (AsLeaf l) = leaf (leaf_of l)
tree_read array_left object_left (Array a) = array (trees_from (array_left a))
tree_read array_left object_left (Object o) = object (members_from (object_left o))

-- the tree that is read, where a leaf is an owned value
abbrev pub tree_of_reading : {R K A O : Type 0} → (A → List Tree) → (O → List (List ℕ × Tree)) → Reading R K A O → Tree
tree_of_reading items_left members_left (OwnedLeaf v) = tree_of v
tree_of_reading items_left members_left (Items a) = array (trees_from (items_left a))
tree_of_reading items_left members_left (Pairs o) = object (members_from (members_left o))
