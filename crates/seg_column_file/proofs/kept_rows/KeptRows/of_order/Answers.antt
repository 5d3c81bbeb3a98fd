use Rattle.std.proofs.Common.{sym, subst}
use Rattle.seg_column_file.specs.KeptRows.{AreMarks}
use Rattle.seg_column_file.specs.RowOrders.{rows_in_order, stacked}
use Rattle.seg_column_file.specs.declared.row_order.MergeRowOrder.{MergeRowOrder}
use Rattle.seg_column_file.proofs.CallAnswers.{if_ok_so}
use Rattle.seg_column_file.proofs.StackedMarks.{all_are_kept}
use Rattle.seg_column_file.proofs.kept_rows.KeptRows.of_order.Goals as goal

pub returns-in-Stack : goal.returns-in-Stack
returns-in-Stack c =
    let counts = c.args.counts.now in
    if_ok_so c.all_marked.result c.all_marked.ensures
    (λ kept is. subst (λ (order : MergeRowOrder). AreMarks counts (rows_in_order counts order) kept) (sym c.in-Stack.is)
    (subst (AreMarks counts (stacked 0 counts)) (sym is) (all_are_kept counts)))
