use Rattle.std.proofs.Common.{ap, map, ◌∙◌}
use Rattle.seg_column_file.specs.RowOrders.{place_of}
use Rattle.seg_merger.specs.DocIdMapping.{Mapping}
use Rattle.seg_merger.proofs.JoinedColumns.{in_order}
use Rattle.seg_merger.proofs.joined_columns.live_addresses.Goals as goal

pub returns : goal.returns
returns c counts =
    ap (map place_of) (c.into_addresses.ensures ∙ ap (λ (m : Mapping). m.addresses) c.in_ok-mapping.ensures)
    ∙ in_order 0 c.args.parts.now
