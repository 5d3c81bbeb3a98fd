use Rattle.std.proofs.Common.{◌≡◌, suc, ◌*◌, ◌≤◌, ◌++◌}
use Rattle.seg_values.specs.Tree.{levels, most_levels, most_member_levels, trees_from, members_from}
use Rattle.seg_access.proofs.value_copy.+owning.Given as goal

abbrev pub decreases-read_owned : goal.decreases-read_owned
decreases-read_owned g l = 2 * levels (g.R.Readable.tree l.value)

abbrev pub decreases-own_items : goal.decreases-own_items
decreases-own_items g l = suc (2 * most_levels (trees_from (g.R.Readable.items_left l.items)))

abbrev pub decreases-own_members : goal.decreases-own_members
decreases-own_members g l = suc (2 * most_member_levels (members_from (g.R.Readable.members_left l.members)))

-- what was made, with what is left, is all
abbrev pub invariant-own_items-loop-item : goal.invariant-own_items-loop-item
invariant-own_items-loop-item g l = record {
  goes : (goal.iterator-own_items-loop-item g).can_next l.item-iterator × (goal.iterator-own_items-loop-item g).is_finite l.item-iterator;
  all : l.owned ++ g.R.Readable.items_left l.item-iterator ≡ g.R.Readable.items_left l.fn.items;
  no_deeper : most_levels (trees_from (g.R.Readable.items_left l.item-iterator)) ≤ most_levels (trees_from (g.R.Readable.items_left l.fn.items));
}

abbrev pub invariant-own_members-loop-key : goal.invariant-own_members-loop-key
invariant-own_members-loop-key g l = record {
  goes : (goal.iterator-own_members-loop-key g).can_next l.key-iterator × (goal.iterator-own_members-loop-key g).is_finite l.key-iterator;
  all : l.owned ++ g.R.Readable.members_left l.key-iterator ≡ g.R.Readable.members_left l.fn.members;
  no_deeper : most_member_levels (members_from (g.R.Readable.members_left l.key-iterator)) ≤ most_member_levels (members_from (g.R.Readable.members_left l.fn.members));
}
