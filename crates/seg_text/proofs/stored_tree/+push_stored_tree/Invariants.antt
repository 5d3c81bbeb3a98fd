use Rattle.std.proofs.Common.{◌+◌, ◌-◌, ◌*◌}
use denote.Shadow.{shadow}
use denote.Text.{Utf8}
use Rattle.seg_doc_bytes.specs.StoredTree as trees
use Rattle.seg_values.specs.ValueJson.{value_json}
use Rattle.seg_text.proofs.PrintedCounts.{ItemsPrinted}
use Rattle.seg_text.proofs.PrintedMembers.{MembersPrinted}
use Rattle.seg_text.proofs.stored_tree.+push_stored_tree.Given as goal

-- each call of a tree is of fewer levels
abbrev pub decreases-push_stored_object : goal.decreases-push_stored_object
decreases-push_stored_object l = 2 * l.levels + 1

abbrev pub decreases-push_stored_array : goal.decreases-push_stored_array
decreases-push_stored_array l = 2 * l.levels + 1

abbrev pub decreases-push_stored_tree : goal.decreases-push_stored_tree
decreases-push_stored_tree l = 2 * l.levels

abbrev pub invariant-push_stored_array-loop : goal.invariant-push_stored_array-loop
invariant-push_stored_array-loop l = ItemsPrinted (trees.stored_tree_at l.levels) value_json l.count l.initial.bytes.now (l.count - l.counter) l.bytes.now l.initial.out.items l.out.items l.later

abbrev pub invariant-push_stored_object-loop : goal.invariant-push_stored_object-loop
invariant-push_stored_object-loop l = shadow (Utf8 l.last) × MembersPrinted (trees.stored_tree_at l.levels) l.count l.initial.bytes.now (l.count - l.counter) l.bytes.now l.initial.out.items l.out.items l.later l.last
