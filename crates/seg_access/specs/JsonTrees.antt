-- The trees of JSON values.
use Rattle.std.specs.Prelude.{ℕ, ◌^◌, List, pos, nat_lt, if◌then◌else◌}
use Rattle.serde_json.specs.Data as json
use Rattle.seg_values.specs.Tree.{Tree, Leaf, leaf, array, object, null, text, unsigned, signed, boolean, Trees, no_trees, tree, Members, no_members, member, trees_from, members_from}
use Rattle.seg_access.specs.declared.json_value.JsonMember.{JsonMember}
use Rattle.seg_access.specs.declared.json_value.JsonValue.{JsonValue}
use Rattle.seg_access.specs.declared.json_value.JsonValue.TheVariants.{Null, Bool, U64, I64, Str, Array, Object}

-- a whole number from 0 on: an i64 where it is one, else a u64
abbrev pub whole : ℕ → Leaf
whole n = if nat_lt n (2 ^ 63) then signed (pos n) else unsigned n

abbrev pub tree_of_json : JsonValue → Tree
tree_of_json Null = leaf null
tree_of_json (Bool b) = leaf (boolean b)
tree_of_json (U64 n) = leaf (whole n)
tree_of_json (I64 z) = leaf (signed z)
tree_of_json (Str s) = leaf (text s)
tree_of_json (Array ts) = array (trees_from ts)
tree_of_json (Object ms) = object (members_from ms)

-- a key, and the tree of its value
abbrev pub member_of_json : JsonMember → List ℕ × Tree
member_of_json m = (m.key, tree_of_json m.value)

-- a number as a leaf; of a float nothing is told
abbrev pub number_leaf : json.Num → Leaf
number_leaf (json.unsigned n) = whole n
number_leaf (json.negative z) = signed z
number_leaf (json.float x) = null

-- the tree of what a JSON text tells, where that has no float
abbrev mutual
  pub data_tree : json.Data → Tree
  data_tree json.null = leaf null
  data_tree (json.boolean b) = leaf (boolean b)
  data_tree (json.number n) = leaf (number_leaf n)
  data_tree (json.string s) = leaf (text s)
  data_tree (json.array ds) = array (item_trees ds)
  data_tree (json.object ms) = object (member_trees ms)

  pub item_trees : json.Items → Trees
  item_trees json.no_items = no_trees
  item_trees (json.item d ds) = tree (data_tree d) (item_trees ds)

  pub member_trees : json.Members → Members
  member_trees json.no_members = no_members
  member_trees (json.member k d ms) = member k (data_tree d) (member_trees ms)
