use Rattle.std.proofs.Common.{List, ℕ}
use Rattle.std.specs.List.{flat_map}
use Rattle.std.proofs.lemmas.Result.{on_ok_weaker}
use Rattle.seg_common.proofs.Results.{at_ok}
use Rattle.seg_column_format.specs.ColumnBytes.{column_bytes, ends_from, number_bytes}
use Rattle.seg_column_file.specs.RowOrders.{Place, rows_in_order}
use Rattle.seg_column_merge_parts.specs.SourceRows.{joined}
use Rattle.seg_column_merge_parts.proofs.JoinedBytes.{both_parts}
use Rattle.seg_column_merge_parts.proofs.joined_column.put_joined.Goals as goal

pub returns : goal.returns
unfolding column_bytes
returns c =
    let sources = c.args.sources.now in
    let out = c.args.out.now.items in
    let rows = rows_in_order c.args.counts.now c.args.order.now in
    let ends = λ (r : List Place). number_bytes (ends_from 0 (joined sources r)) in
    let values = λ (r : List Place). flat_map (flat_map {X = List ℕ} {A = ℕ} (λ code. code)) (joined sources r) in
    record {
      ok = on_ok_weaker c.put_values.result
          (both_parts out (ends rows) (values rows) c.put_row_ends.new.out.items c.put_values.new.out.items
          c.in_ok-put_row_ends.ensures.ok)
          c.put_values.ensures;
      few = at_ok c.put_values.result c.in_ok-put_row_ends.ensures.few;
    }
