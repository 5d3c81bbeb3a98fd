use Rattle.std.proofs.Common.{◌≡◌, ◌++◌, List, sym, subst}
use Rattle.std.specs.Prelude.{All, OnOk}
use Rattle.seg_column_file.specs.RowOrders.{Place, rows_in_order}
use Rattle.seg_column_merge_parts.specs.SourceRows.{IsPut, joined}
use Rattle.seg_column_file.specs.declared.row_order.MergeRowOrder.{MergeRowOrder}
use Rattle.seg_column_merge_parts.proofs.FirstRows.{row_bytes}
use Rattle.seg_column_merge_parts.proofs.joined_column.put_values.Goals as goal

pub put_stacked-requires : goal.put_stacked-requires
put_stacked-requires c =
    subst (λ (o : MergeRowOrder). All (IsPut c.args.sources.now) (rows_in_order c.args.counts.now o)) c.in-Stack.is
    c.requires

pub put_rows-requires : goal.put_rows-requires
put_rows-requires c = subst (All (IsPut c.args.sources.now)) (sym c.new.ensures) c.requires

pub returns-in-Stack : goal.returns-in-Stack
returns-in-Stack c =
    subst (λ (o : MergeRowOrder). OnOk c.put_stacked.result (c.put_stacked.new.out.items
    ≡ c.args.out.now.items ++ row_bytes (joined c.args.sources.now (rows_in_order c.args.counts.now o))))
    (sym c.in-Stack.is) c.put_stacked.ensures

pub returns-in-Shuffled : goal.returns-in-Shuffled
returns-in-Shuffled c =
    subst (λ (places : List Place). OnOk c.put_rows.result (c.put_rows.new.out.items
    ≡ c.args.out.now.items ++ row_bytes (joined c.args.sources.now places)))
    c.new.ensures c.put_rows.ensures
