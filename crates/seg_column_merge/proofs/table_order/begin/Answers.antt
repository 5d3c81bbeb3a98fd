use Rattle.seg_column_merge.proofs.TableRuns.{goes_begun}
use Rattle.seg_column_merge.proofs.table_order.begin.Goals as goal

pub returns-then-goes_on : goal.returns-then-goes_on
returns-then-goes_on c = goes_begun c.args.rows.now c.args.at c.args.heads.now c.requires (c.goes_on.ensures c.if-goes_on.true)
