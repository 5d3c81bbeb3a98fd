-- The tree that a value stands for.
use Rattle.std.specs.Prelude.{ℕ, List, String, string_bytes}
use Rattle.std.specs.declared.alloc.Global.{Global}
use Rattle.std.specs.Net.Addr.{ipv6_octets}
use Rattle.seg_values.specs.declared.value.Member.{Member}
use Rattle.seg_values.specs.declared.value.OwnedValue.{OwnedValue}
use Rattle.seg_values.specs.declared.value.OwnedValue.TheVariants.{Null, Str, PreTokStr, U64, I64, Bool, Date, Facet, Bytes, Array, Object, IpAddr}
use Rattle.seg_values.specs.declared.document.FieldValue.{FieldValue}
use Rattle.seg_values.specs.Tree.{Tree, leaf, array, object, null, text, pre_tokenized, unsigned, signed, boolean, date, facet, byte_string, ip, trees_from, members_from}

abbrev pub tree_of : OwnedValue → Tree
tree_of Null = leaf null
tree_of (Str s) = leaf (text s)
tree_of (PreTokStr p) = leaf (pre_tokenized p)
tree_of (U64 n) = leaf (unsigned n)
tree_of (I64 z) = leaf (signed z)
tree_of (Bool b) = leaf (boolean b)
tree_of (Date z) = leaf (date z)
tree_of (Facet s) = leaf (facet s)
tree_of (Bytes b) = leaf (byte_string b)
tree_of (Array ts) = array (trees_from ts)
tree_of (Object ms) = object (members_from ms)
tree_of (IpAddr a) = leaf (ip (ipv6_octets a))

-- a key, and the tree of its value
abbrev pub member_of : Member → List ℕ × Tree
member_of m = (m.key, tree_of m.value)

-- a field, and the tree of its value
abbrev pub pair_of : FieldValue → ℕ × Tree
pair_of p = (p.field, tree_of p.value)

-- an entry of a map by fields, with the tree of its value
abbrev pub entry_pair : ℕ × OwnedValue → ℕ × Tree
entry_pair e = (e.0, tree_of e.1)

-- an entry of a map by texts, with the tree of its value
abbrev pub named_tree : String Global × OwnedValue → List ℕ × Tree
named_tree e = (string_bytes e.0, tree_of e.1)
