use Rattle.std.proofs.Common.{◌≡◌, ◌++◌}
use Rattle.seg_column_file.specs.ColumnFiles.{is_selected, stored_where}
use Rattle.seg_column_file.proofs.selection.selected_columns.Given as goal

abbrev pub invariant-loop-column_path : goal.invariant-loop-column_path
invariant-loop-column_path l = record {
  can : (goal.iterator-loop-column_path).can_next l.column_path-iterator;
  finite : (goal.iterator-loop-column_path).is_finite l.column_path-iterator;
  all : l.handles.items ++ stored_where (is_selected l.below l.path) l.column_path-iterator
      ≡ stored_where (is_selected l.below l.path) l.fn.columns;
}
