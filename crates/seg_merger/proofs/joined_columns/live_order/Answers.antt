use Rattle.std.proofs.Common.{map, sym, ◌∙◌}
use Rattle.std.proofs.lemmas.Result.{IfOk-weaker}
use Rattle.seg_column_file.specs.ColumnFiles.{ColumnFile}
use Rattle.seg_open.specs.OpenSegment.{OpenSegment}
use Rattle.seg_merger.specs.DocIdMapping.{all_alive}
use Rattle.seg_merger.proofs.JoinedColumns.{all_stacked, is_stacked}
use Rattle.seg_merger.proofs.joined_columns.live_order.Goals as goal

pub returns-in-Stacked : goal.returns-in-Stacked
returns-in-Stacked c =
    let parts = c.args.parts.now in
    all_stacked 0 parts c.requires (is_stacked (all_alive parts) (sym c.type_of.ensures ∙ c.in-Stacked.is))

pub returns-in-StackedWithDeletes : goal.returns-in-StackedWithDeletes
returns-in-StackedWithDeletes c =
    IfOk-weaker c.live_addresses.result _ _
    (λ order found. found (map (λ (f : ColumnFile). f.rows) (map (λ (p : OpenSegment). p.columns) c.args.parts.now)))
    c.live_addresses.ensures
