use Rattle.std.proofs.Common.{◌≡◌, ◌++◌}
use Rattle.std.specs.List.{flat_map}
use Rattle.seg_text.proofs.FileOrder.{line}
use Rattle.seg_text.proofs.columns.push_columns.Given as goal

abbrev pub invariant-loop-path : goal.invariant-loop-path
invariant-loop-path l = record {
  can : (goal.iterator-loop-path).can_next l.path-iterator;
  finite : (goal.iterator-loop-path).is_finite l.path-iterator;
  all : l.out.items ++ flat_map line l.path-iterator ≡ l.fn.out.items ++ flat_map line l.columns.columns;
}
