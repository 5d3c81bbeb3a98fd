use Rattle.std.proofs.Common.{◌≡◌, take}
use Rattle.seg_fastfield.specs.FieldColumns.{AreFieldColumns}
use Rattle.seg_fastfield.proofs.schema_columns.field_columns.Given as goal

abbrev pub invariant-loop-entry : goal.invariant-loop-entry
invariant-loop-entry l = record {
  same : l.columns ≡ l.fn.columns;
  ids : AreFieldColumns l.fn.columns (take l.entry-index l.schema) l.ids.items;
}
