use Rattle.std.proofs.Common.{◌≡◌, drop}
use Rattle.serde_json.specs.View.{items_view, members_view}
use Rattle.seg_values.specs.JsonTrees.{trees_read, members_read}
use Rattle.seg_values.proofs.ReadJsonValues.{after}
use Rattle.seg_values.proofs.read_json.+read_json.Given as goal

abbrev pub invariant-values_from-loop-item : goal.invariant-values_from-loop-item
invariant-values_from-loop-item l =
    after l.values (trees_read l.reading (items_view (drop l.item-index l.item-items))) ≡ trees_read l.reading (items_view l.item-items)

abbrev pub invariant-members_from-loop-key : goal.invariant-members_from-loop-key
invariant-members_from-loop-key l =
    after l.members (members_read l.reading (members_view l.key-iterator)) ≡ members_read l.reading (members_view l.entries.entries)
