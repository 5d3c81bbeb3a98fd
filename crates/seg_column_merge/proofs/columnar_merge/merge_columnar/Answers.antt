use Rattle.std.proofs.Common.{◌≡◌, ℕ, List, map, subst, ◌∙◌}
use Rattle.std.specs.Prelude.{MatchResult}
use Rattle.seg_column_file.specs.ColumnFiles.{ColumnFile}
use Rattle.seg_column_merge.specs.MergedColumns.{IsMerged, MergeFails, merged_columns, required_key}
use Rattle.seg_column_file.specs.RowOrders.{rows_in_order}
use Rattle.seg_column_merge.proofs.columnar_merge.merge_columnar.Goals as goal

pub returns : goal.returns
returns c =
    let files = c.args.columnars.now in
    let keys = map required_key c.args.required_columns.now in
    let order = c.args.order.now in
    let same : c.as_slice-counts.result.now ≡ map (λ (f : ColumnFile). f.rows) files =
    c.as_slice-counts.ensures.value ∙ c.in-Ok.ensures.counts in
    subst (λ (counts : List ℕ). MatchResult c.merge_sorted.result
    (λ bytes. IsMerged keys files (rows_in_order counts order) bytes.items)
    (MergeFails (merged_columns keys files (rows_in_order counts order)))) same c.merge_sorted.ensures
