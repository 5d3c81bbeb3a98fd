use Rattle.std.proofs.Common.{◌≡◌, drop}
use Rattle.seg_column_format.specs.SchemaColumns.{all_marked}
use Rattle.seg_column_format.proofs.schema_columns.all_there.Given as goal

abbrev pub invariant-loop-place : goal.invariant-loop-place
invariant-loop-place l = all_marked (drop l.place l.schema) (drop l.place l.marks) ≡ all_marked l.schema l.marks
