use Rattle.std.proofs.Common.{◌≡◌, ◌++◌, drop, map}
use Rattle.seg_text.specs.ColumnText.{rows_text}
use Rattle.seg_text.proofs.column_rows.push_rows.Given as goal

abbrev pub invariant-loop-doc : goal.invariant-loop-doc
invariant-loop-doc g l =
    l.out.items ++ rows_text l.doc (map (map (g.P.Printer.meant l.printer)) (drop l.doc l.column))
    ≡ l.initial.out.items ++ rows_text 0 (map (map (g.P.Printer.meant l.printer)) l.column)
