use Rattle.std.proofs.Common.{◌≡◌, drop}
use Rattle.std.specs.Prelude.{◌||◌}
use Rattle.std.specs.List.{AllByRecursion, list_any}
use Rattle.seg_column_writer.specs.RecordedColumns.{IsRecorded, lacks_type}
use Rattle.seg_column_writer.proofs.typed_column.lack_types.Given as goal

-- what is seen so far, with what is left, is all
abbrev pub invariant-loop-column : goal.invariant-loop-column
invariant-loop-column l = record {
  any : (l.lacking || list_any lacks_type (drop l.column-index l.columns)) ≡ list_any lacks_type l.columns;
  each : AllByRecursion IsRecorded (drop l.column-index l.columns) → AllByRecursion IsRecorded l.columns;
}
