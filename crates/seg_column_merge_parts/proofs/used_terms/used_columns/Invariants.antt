use Rattle.std.proofs.Common.{take}
use Rattle.std.specs.List.{AllZip}
use Rattle.seg_column_merge_parts.proofs.MergedRows.{AreOfRow}
use Rattle.seg_column_merge_parts.proofs.used_terms.used_columns.Given as goal

abbrev pub invariant-loop-row : goal.invariant-loop-row
invariant-loop-row l = AllZip (AreOfRow l.kept) (take l.row-index l.rows) l.columns.items
