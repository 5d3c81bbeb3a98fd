use Rattle.std.proofs.Common.{◌≡◌, drop}
use Rattle.std.specs.List.{list_any}
use Rattle.seg_column_merge.specs.Decisions.{has_value}
use Rattle.seg_column_merge_parts.specs.declared.tables.TableRow.{TableRow}
use Rattle.seg_column_merge.proofs.decisions.any_kept_value.Given as goal

abbrev pub invariant-loop-row : goal.invariant-loop-row
invariant-loop-row l =
    list_any (λ (r : TableRow). has_value l.kept r.column) (drop l.row-index l.rows)
    ≡ list_any (λ (r : TableRow). has_value l.kept r.column) l.rows
