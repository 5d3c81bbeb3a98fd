-- Copies of the values in a JSON value, seen as trees.
use Rattle.std.proofs.Common.{◌≡◌, List, [], ◌∷◌, ℕ, map, String, Global, string_bytes, refl, ap}
use Rattle.serde_json.specs.View.{view, items_view, members_view}
use Rattle.serde_json.specs.declared.value.Value.{Value}
use Rattle.seg_values.specs.Tree.{Tree, tree, member, trees_from, members_from}
use Rattle.seg_access.specs.JsonTrees.{data_tree, item_trees, member_trees}

abbrev pub seen_tree : Value → Tree
seen_tree v = data_tree (view v)

abbrev pub seen_member : String Global × Value → List ℕ × Tree
seen_member m = (string_bytes m.0, data_tree (view m.1))

pub trees_seen : (vs : List Value) → trees_from (map seen_tree vs) ≡ item_trees (items_view vs)
trees_seen [] = refl
trees_seen (v ∷ vs) = ap (tree (seen_tree v)) (trees_seen vs)

pub members_seen : (ms : List (String Global × Value)) → members_from (map seen_member ms) ≡ member_trees (members_view ms)
members_seen [] = refl
members_seen (m ∷ ms) = ap (member (string_bytes m.0) (data_tree (view m.1))) (members_seen ms)
