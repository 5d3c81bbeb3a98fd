use Rattle.std.proofs.Common.{◌+◌, ◌-◌, ◌*◌}
use Rattle.seg_doc_bytes.specs.StoredTree as trees
use Rattle.seg_doc_bytes.proofs.GatheredValues.{Gathered}
use Rattle.seg_doc_bytes.proofs.tree_reader.+read_tree.Given as goal

-- each call of a tree is of fewer levels
abbrev pub decreases-read_object : goal.decreases-read_object
decreases-read_object l = 2 * l.levels + 1

abbrev pub decreases-read_array : goal.decreases-read_array
decreases-read_array l = 2 * l.levels + 1

abbrev pub decreases-read_tree : goal.decreases-read_tree
decreases-read_tree l = 2 * l.levels

abbrev pub invariant-read_object-loop : goal.invariant-read_object-loop
invariant-read_object-loop l = Gathered (trees.member_at (trees.stored_tree_at l.levels)) l.count l.initial.bytes.now l.members (l.count - l.counter) l.bytes.now

abbrev pub invariant-read_array-loop : goal.invariant-read_array-loop
invariant-read_array-loop l = Gathered (trees.stored_tree_at l.levels) l.count l.initial.bytes.now l.values (l.count - l.counter) l.bytes.now
