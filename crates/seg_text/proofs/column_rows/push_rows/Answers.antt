use Rattle.std.proofs.Common.{◌++◌, map, ap, ◌∙◌, arith}
use Rattle.seg_text.specs.ColumnText.{rows_text, values_text}
use Rattle.seg_text.proofs.PrintedRows.{row_more}
use Rattle.seg_text.proofs.column_rows.push_rows.Goals as goal

pub loop-doc-preserved : goal.loop-doc-preserved
loop-doc-preserved g c =
    let meant = g.P.Printer.meant c.args.printer.now in
    row_more meant c.args.column.now c.loop-doc.doc c.loop-doc.out.items c.push_row.new.out.items c.args.out.now.items
    (rows_text 0 (map (map meant) c.args.column.now))
    (omega (arith, c.loop-doc-test.true, c.num_docs-doc-end.ensures))
    (c.in_ok-push_row.ensures
    ∙ ap (λ row. c.loop-doc.out.items ++ values_text _ c.loop-doc.doc (map meant row)) c.values_for_doc.ensures)
    c.loop-doc.invariant
