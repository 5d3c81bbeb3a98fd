use Rattle.std.proofs.Common.{◌+◌, ◌∙◌, sym}
use Rattle.seg_column_file.specs.RowOrders.{stacked_from}
use Rattle.seg_column_file.proofs.StackedRows.{next_address, none_left}
use Rattle.seg_column_file.proofs.row_order.OrderedRowsIterator.next.Goals as goal

pub returns-clause-steps : goal.returns-clause-steps
returns-clause-steps c =
    let i = c.self.inside in
    sym c.self.view_is
    ∙ next_address (stacked_from i.counts.now i.file i.row)
    (none_left (stacked_from i.counts.now i.file i.row) (λ p. stacked_from i.counts.now p.0 (p.1 + 1))
    c.next_stacked.result c.in_default.not-Some c.next_stacked.ensures.next) i.addresses.now
    c.in-Some-split_first.rest.now c.in-Some-split_first.address.now c.in-Some-split_first.ensures.cases.0
