use Rattle.std.proofs.Common.{◌≡◌, ◌++◌, drop, map}
use Rattle.serde_json.specs.View.{items_view, members_view}
use Rattle.serde_json.specs.Written.{items_have_float, members_have_float}
use Rattle.seg_access.proofs.JsonCopies.{seen_tree, seen_member}
use Rattle.seg_access.proofs.json_copy.+copy.Given as goal

-- what was copied, with what is left, is all; and a float that there is, is left
abbrev pub invariant-copy_items-loop-item : goal.invariant-copy_items-loop-item
invariant-copy_items-loop-item l = record {
  all : l.copies ++ map seen_tree (drop l.item-index l.items.items) ≡ map seen_tree l.items.items;
  floats : items_have_float (items_view (drop l.item-index l.items.items)) ≡ items_have_float (items_view l.items.items);
}

abbrev pub invariant-copy_members-loop-key : goal.invariant-copy_members-loop-key
invariant-copy_members-loop-key l = record {
  all : l.copies ++ map seen_member l.key-iterator ≡ map seen_member l.members.entries;
  floats : members_have_float (members_view l.key-iterator) ≡ members_have_float (members_view l.members.entries);
}
