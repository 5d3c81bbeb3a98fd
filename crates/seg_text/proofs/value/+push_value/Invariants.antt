use Rattle.std.proofs.Common.{◌≡◌, ◌++◌, ◌+◌, ◌*◌, drop, map, false}
use Rattle.serde_json.specs.Written.{items_text, members_text}
use Rattle.seg_values.specs.Tree.{levels, most_levels, most_member_levels, trees_from, members_from}
use Rattle.seg_values.specs.ValueTrees.{tree_of}
use Rattle.seg_values.specs.ValueJson.{items_json}
use Rattle.seg_text.specs.PlacedMembers.{placed_members, ArePlaces}
use Rattle.seg_text.proofs.value.+push_value.Given as goal

-- each call of a value is of fewer levels
abbrev pub decreases-push_value : goal.decreases-push_value
decreases-push_value l = 3 * levels (tree_of l.value.now)

abbrev pub decreases-push_array : goal.decreases-push_array
decreases-push_array l = 3 * most_levels (trees_from l.values.now) + 2

abbrev pub decreases-push_object : goal.decreases-push_object
decreases-push_object l = 3 * most_member_levels (members_from l.members.now) + 2

abbrev pub decreases-push_member : goal.decreases-push_member
decreases-push_member l = 3 * levels (tree_of l.value.now) + 1

abbrev pub invariant-push_array-loop-at : goal.invariant-push_array-loop-at
invariant-push_array-loop-at l = l.out.items ++ items_text l.later (items_json (trees_from (drop l.at l.values))) ≡ l.initial.out.items ++ items_text false (items_json (trees_from l.values))

abbrev pub invariant-push_object-loop-key : goal.invariant-push_object-loop-key
invariant-push_object-loop-key l =
    (l.out.items ++ members_text l.later (placed_members l.members (map (λ p. (p.0.now, p.1)) l.key-iterator)) ≡ l.initial.out.items ++ members_text false (placed_members l.members (map (λ p. (p.0.now, p.1)) l.initial.key-iterator)))
    × ArePlaces l.members (map (λ p. (p.0.now, p.1)) l.key-iterator)
