use Rattle.std.proofs.Common.{◌≡◌, ◌+◌, ℕ, suc, List, drop}
use Rattle.std.specs.List.{flat_map}
use Rattle.seg_values.specs.Tree.{levels, trees_from, members_from}
use Rattle.seg_values.specs.ValueTrees.{tree_of}
use Rattle.seg_model.specs.Leaves.{leaves_of_members, leaves_of_trees, level_in_array}
use Rattle.seg_column_writer.specs.DocumentRows.{with_values}
use Rattle.seg_fastfield.specs.FastLeaves.{entry_leaf}
use Rattle.seg_fastfield.specs.PathNumbers.{IsKnownStill}
use Rattle.seg_fastfield.specs.RecordedLeaves.{IsPlaceOf}
use Rattle.seg_fastfield.specs.FastFieldWriters.{AreUnderWay}
use Rattle.seg_fastfield.proofs.row_recorder.RowRecorder.+record_tree.Given as goal

abbrev pub decreases-record_tree : goal.decreases-record_tree
decreases-record_tree g l = levels (tree_of l.value.now)

-- what is recorded so far, with what is left, is all
abbrev pub invariant-loop-at : goal.invariant-loop-at
invariant-loop-at g l = record {
  path : l.path ≡ l.fn.path;
  recorded : (keys : List (List ℕ)) → IsPlaceOf l.entry keys l.level l.fn.path
      → with_values l.self.row (flat_map (entry_leaf (g.Z.Analyzers.tokens_of l.self.analyzers.now) l.entry)
      (leaves_of_trees keys (level_in_array l.level) (trees_from (drop l.at l.values)))) l.columns
      ≡ with_values l.self.row (flat_map (entry_leaf (g.Z.Analyzers.tokens_of l.self.analyzers.now) l.entry)
      (leaves_of_trees keys (level_in_array l.level) (trees_from l.values))) l.fn.columns;
  under_way : AreUnderWay l.self.schema.now (l.self.row + 1) l.columns;
  known : IsKnownStill l.fn.known l.known l.columns;
}

abbrev pub invariant-loop-index : goal.invariant-loop-index
invariant-loop-index g l = record {
  path : l.path ≡ l.fn.path;
  recorded : (keys : List (List ℕ)) → IsPlaceOf l.entry keys l.level l.fn.path
      → with_values l.self.row (flat_map (entry_leaf (g.Z.Analyzers.tokens_of l.self.analyzers.now) l.entry)
      (leaves_of_members keys (suc l.level) (members_from (drop l.index l.members)))) l.columns
      ≡ with_values l.self.row (flat_map (entry_leaf (g.Z.Analyzers.tokens_of l.self.analyzers.now) l.entry)
      (leaves_of_members keys (suc l.level) (members_from l.members))) l.fn.columns;
  under_way : AreUnderWay l.self.schema.now (l.self.row + 1) l.columns;
  known : IsKnownStill l.fn.known l.known l.columns;
}
