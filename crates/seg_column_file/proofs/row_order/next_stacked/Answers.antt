use Rattle.std.proofs.Common.{◌∙◌, refl}
use Rattle.seg_column_file.proofs.StackedRows.{next_file, next_row, no_file}
use Rattle.seg_column_file.proofs.row_order.next_stacked.Goals as goal

pub loop-file-init : goal.loop-file-init
loop-file-init c = refl

pub loop-file-preserved : goal.loop-file-preserved
loop-file-preserved c =
    c.loop-file.invariant
    ∙ next_file c.args.counts.now c.loop-file.file c.loop-file.row c.loop-file-test.true c.if-row-counts.false

pub returns-then-row-counts-clause-next : goal.returns-then-row-counts-clause-next
returns-then-row-counts-clause-next c =
    c.loop-file.invariant ∙ next_row c.args.counts.now c.loop-file.file c.loop-file.row c.if-row-counts.true

pub returns-clause-next : goal.returns-clause-next
returns-clause-next c =
    c.loop-file.invariant ∙ no_file c.args.counts.now c.loop-file.file c.loop-file.row c.loop-file-test.false
