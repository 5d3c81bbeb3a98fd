use Rattle.std.proofs.Common.{◌≡◌, ◌++◌, false, map}
use Rattle.seg_text.specs.ColumnText.{values_text}
use Rattle.seg_text.proofs.column_rows.push_row.Given as goal

abbrev pub invariant-loop-value : goal.invariant-loop-value
invariant-loop-value g l = record {
  can : (goal.iterator-loop-value g).can_next l.value-iterator;
  finite : (goal.iterator-loop-value g).is_finite l.value-iterator;
  all : l.out.items ++ values_text l.later l.doc (map (g.P.Printer.meant l.printer) l.value-iterator)
      ≡ l.fn.out.items ++ values_text false l.doc (map (g.P.Printer.meant l.printer) l.fn.values);
}
