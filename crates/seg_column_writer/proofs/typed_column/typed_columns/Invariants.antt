use Rattle.std.proofs.Common.{◌≡◌, ◌++◌, drop}
use Rattle.seg_column_writer.specs.TypedColumns.{typed_from}
use Rattle.seg_column_writer.proofs.typed_column.typed_columns.Given as goal

-- what there is so far, with what is left, is all
abbrev pub invariant-loop-place : goal.invariant-loop-place
invariant-loop-place l = record {
  all : l.typed.items ++ typed_from l.place (drop l.place l.columns) ≡ typed_from 0 l.columns;
}
