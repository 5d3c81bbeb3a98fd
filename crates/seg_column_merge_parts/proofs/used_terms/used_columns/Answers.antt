use Rattle.std.proofs.Common.{◌+◌, take, sym, subst}
use Rattle.std.specs.List.{AllZip}
use Rattle.seg_column_merge_parts.proofs.MergedRows.{AreOfRow, row_more}
use Rattle.seg_column_merge_parts.proofs.used_terms.used_columns.Goals as goal

pub loop-row-preserved : goal.loop-row-preserved
loop-row-preserved c =
    let kept = c.args.kept.now in
    subst (AllZip (AreOfRow kept) (take (c.loop-row.row-index + 1) c.args.rows.now)) (sym c.in_ok-push.ensures.items)
    (row_more kept c.args.rows.now c.loop-row.row-index c.row-item.result c.loop-row-test.true c.row-item.is
    c.loop-row.columns.items c.in_ok-of.field-0 c.loop-row.invariant c.in_ok-of.ensures)
