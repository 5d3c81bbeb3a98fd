use Rattle.std.proofs.Common.{false, map}
use Rattle.seg_text.specs.ColumnText.{values_text}
use Rattle.seg_text.proofs.PrintedRows.{value_more}
use Rattle.seg_text.proofs.column_rows.push_row.Goals as goal

pub loop-value-preserved : goal.loop-value-preserved
loop-value-preserved g c =
    let meant = g.P.Printer.meant c.args.printer.now in
    record {
      can = tt;
      finite = tt;
      all = value_more meant c.loop-value.later c.args.doc c.in-Some.value c.next.new.self c.loop-value.value-iterator
          c.loop-value.out.items c.push_mark.new.out.items c.push.new.out.items c.args.out.now.items
          (values_text false c.args.doc (map meant c.args.values)) c.in-Some.ensures.steps c.in_ok-push_mark.ensures
          c.in_ok-push.ensures c.loop-value.invariant.all;
    }
