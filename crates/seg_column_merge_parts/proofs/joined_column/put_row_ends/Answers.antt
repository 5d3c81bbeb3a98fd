use Rattle.std.proofs.Common.{◌≡◌, ◌<◌, ◌^◌, ◌++◌, List, sym, subst}
use Rattle.std.specs.Prelude.{All, OnOk}
use Rattle.seg_column_format.specs.ColumnBytes.{ends_from, number_bytes, total}
use Rattle.seg_column_file.specs.RowOrders.{Place, rows_in_order}
use Rattle.seg_column_file.specs.declared.row_order.MergeRowOrder.{MergeRowOrder}
use Rattle.seg_column_merge_parts.specs.SourceRows.{IsPut, joined}
use Rattle.seg_column_merge_parts.proofs.joined_column.put_row_ends.Goals as goal

pub put_stacked_ends-requires : goal.put_stacked_ends-requires
put_stacked_ends-requires c =
    subst (λ (o : MergeRowOrder). All (IsPut c.args.sources.now) (rows_in_order c.args.counts.now o)) c.in-Stack.is
    c.requires

pub put_ends-requires : goal.put_ends-requires
put_ends-requires c = subst (All (IsPut c.args.sources.now)) (sym c.new.ensures) c.requires

pub returns-in-Stack : goal.returns-in-Stack
returns-in-Stack c =
    let sources = c.args.sources.now in
    let rows = λ (o : MergeRowOrder). joined sources (rows_in_order c.args.counts.now o) in
    record {
      ok = subst (λ (o : MergeRowOrder). OnOk c.put_stacked_ends.result (c.put_stacked_ends.new.out.items
          ≡ c.args.out.now.items ++ number_bytes (ends_from 0 (rows o)))) (sym c.in-Stack.is)
          c.put_stacked_ends.ensures.ok;
      few = subst (λ (o : MergeRowOrder). OnOk c.put_stacked_ends.result (total (rows o) < 2 ^ 64)) (sym c.in-Stack.is)
          c.put_stacked_ends.ensures.few;
    }

pub returns-in-Shuffled : goal.returns-in-Shuffled
returns-in-Shuffled c =
    let sources = c.args.sources.now in
    record {
      ok = subst (λ (places : List Place). OnOk c.put_ends.result (c.put_ends.new.out.items
          ≡ c.args.out.now.items ++ number_bytes (ends_from 0 (joined sources places)))) c.new.ensures
          c.put_ends.ensures.ok;
      few = subst (λ (places : List Place). OnOk c.put_ends.result (total (joined sources places) < 2 ^ 64)) c.new.ensures
          c.put_ends.ensures.few;
    }
