use Rattle.std.proofs.Common.{◌≡◌, ◌+◌, ◌≤◌, ◌-◌, ◌^◌, length, drop}
use Rattle.seg_values.specs.Tree.{levels, trees_from, members_from}
use Rattle.seg_values.specs.ValueTrees.{tree_of}
use Rattle.seg_values.specs.StoredBytes.{tree_form, tree_forms, member_forms}
use Rattle.seg_model.specs.SaturatedNumbers.{saturated}
use Rattle.seg_check.proofs.stored_len.+tree_len.Given as goal

abbrev pub decreases-tree_len : goal.decreases-tree_len
decreases-tree_len l = levels (tree_of l.value.now)

-- what is so far, with what is left, is all
abbrev pub invariant-loop-at : goal.invariant-loop-at
invariant-loop-at l = record {
  sum : saturated (l.size + length (tree_forms (trees_from (drop l.at l.values)))) ≡ saturated (length (tree_form (tree_of l.fn.value)));
  fits : l.size ≤ 2 ^ 64 - 1;
}

abbrev pub invariant-loop-index : goal.invariant-loop-index
invariant-loop-index l = record {
  sum : saturated (l.size + length (member_forms (members_from (drop l.index l.members)))) ≡ saturated (length (tree_form (tree_of l.fn.value)));
  fits : l.size ≤ 2 ^ 64 - 1;
}
