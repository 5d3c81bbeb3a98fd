use Rattle.std.proofs.Common.{◌≡◌, ◌+◌, ◌*◌, drop, map}
use Rattle.serde_json.specs.Data.{no_members}
use Rattle.serde_json.specs.View.{view, members_view}
use Rattle.seg_values.specs.Tree.{levels, most_levels, most_member_levels, trees_from, members_from}
use Rattle.seg_values.specs.ValueJson.{items_json, members_json}
use Rattle.seg_values.specs.ValueTrees.{tree_of}
use Rattle.seg_values.proofs.WrittenJson.{followed}
use Rattle.seg_values.proofs.write_json.+write_json.Given as goal

-- each call of a value is of fewer levels
abbrev pub decreases-json_from : goal.decreases-json_from
decreases-json_from l = 2 * levels (tree_of l.value.now)

abbrev pub decreases-items_from : goal.decreases-items_from
decreases-items_from l = 2 * most_levels (trees_from l.values.now) + 1

abbrev pub decreases-map_from : goal.decreases-map_from
decreases-map_from l = 2 * most_member_levels (members_from l.members.now) + 1

abbrev pub invariant-items_from-loop-at : goal.invariant-items_from-loop-at
invariant-items_from-loop-at l = followed (map view l.items.items) (items_json (trees_from (drop l.at l.values))) ≡ items_json (trees_from l.values)

abbrev pub invariant-map_from-loop-at : goal.invariant-map_from-loop-at
invariant-map_from-loop-at l = members_json (members_view l.map.entries) (members_from (drop l.at l.members)) ≡ members_json no_members (members_from l.members)
