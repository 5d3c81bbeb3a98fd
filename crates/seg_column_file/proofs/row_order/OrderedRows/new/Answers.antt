use Rattle.std.proofs.Common.{◌++◌, [], ◌∙◌, sym, ap, List, map}
use Rattle.std.proofs.lemmas.List.{append-nil}
use Rattle.seg_column_file.specs.RowOrders.{Place, place_of, rows_in_order, stacked_from}
use Rattle.seg_column_file.proofs.StackedRows.{all_stacked}
use Rattle.seg_column_file.proofs.row_order.OrderedRows.new.Goals as goal

pub returns-in-Stack : goal.returns-in-Stack
returns-in-Stack c =
    append-nil (stacked_from c.args.counts.now 0 0) ∙ all_stacked c.args.counts.now
    ∙ ap (rows_in_order c.args.counts.now) (sym c.in-Stack.is)

pub returns-in-Shuffled : goal.returns-in-Shuffled
returns-in-Shuffled c =
    ap (λ (l : List Place). l ++ map place_of c.as_slice.result.now) (all_stacked [])
    ∙ ap (map place_of) c.as_slice.ensures.value ∙ ap (rows_in_order c.args.counts.now) (sym c.in-Shuffled.is)
