use Rattle.std.proofs.Common.{◌≡◌, ◌++◌, drop}
use Rattle.seg_values.specs.Tree.{levels, trees_from, members_from}
use Rattle.seg_values.specs.ValueTrees.{tree_of}
use Rattle.seg_values.specs.StoredBytes.{tree_forms, member_forms}
use Rattle.seg_doc_bytes.specs.StorableDocuments.{AreStorable, AreStorableMembers}
use Rattle.seg_doc_bytes.proofs.tree_writer.+put_tree.Given as goal

abbrev pub decreases-put_tree : goal.decreases-put_tree
decreases-put_tree l = levels (tree_of l.value.now)

-- what is so far, with what is left, is all
abbrev pub invariant-loop-at : goal.invariant-loop-at
invariant-loop-at l = record {
  form : l.out.items ++ tree_forms (trees_from (drop l.at l.values)) ≡ l.initial.out.items ++ tree_forms (trees_from l.values);
  storable : AreStorable (trees_from (drop l.at l.values)) → AreStorable (trees_from l.values);
}

abbrev pub invariant-loop-index : goal.invariant-loop-index
invariant-loop-index l = record {
  form : l.out.items ++ member_forms (members_from (drop l.index l.members)) ≡ l.initial.out.items ++ member_forms (members_from l.members);
  storable : AreStorableMembers (members_from (drop l.index l.members)) → AreStorableMembers (members_from l.members);
}
