use Rattle.std.proofs.Common.{◌≡◌, drop}
use Rattle.std.specs.List.{list_any}
use Rattle.seg_column_merge_parts.specs.KeptColumns.{there}
use Rattle.seg_column_file.specs.KeptRows.{kept_values}
use Rattle.seg_column_merge_parts.proofs.kept_values.has_value.Given as goal

abbrev pub invariant-loop-row : goal.invariant-loop-row
invariant-loop-row g l =
    list_any there (kept_values (drop l.row l.kept) (drop l.row l.column))
    ≡ list_any there (kept_values l.kept l.column)
