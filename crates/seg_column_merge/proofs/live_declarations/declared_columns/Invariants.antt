use Rattle.std.proofs.Common.{◌≡◌, ◌++◌, drop, map}
use Rattle.std.specs.List.{flat_map}
use Rattle.seg_column_merge.specs.MergedColumns.{required_key}
use Rattle.seg_column_merge.specs.LiveColumns.{entry_keys}
use Rattle.seg_model.specs.Columns.{declared_columns}
use Rattle.seg_column_merge.proofs.live_declarations.declared_columns.Given as goal

abbrev pub invariant-loop-entry : goal.invariant-loop-entry
invariant-loop-entry l =
    map required_key l.declared.items ++ flat_map entry_keys (drop l.entry-index l.schema) ≡ declared_columns l.schema
