use Rattle.std.proofs.Common.{◌≡◌, drop}
use Rattle.seg_column_file.specs.KeptRows.{kept_values}
use Rattle.seg_column_merge_parts.specs.NumberRanges.{with_all, with_signed}
use Rattle.seg_column_merge_parts.proofs.number_range.NumberRange.with_signed.Given as goal

abbrev pub invariant-loop-row : goal.invariant-loop-row
invariant-loop-row l =
    with_all with_signed l.range (kept_values (drop l.row l.kept) (drop l.row l.column))
    ≡ with_all with_signed l.fn.self (kept_values l.kept l.column)
