use Rattle.std.proofs.Common.{None}
use Rattle.seg_generate.proofs.NumberedLists.{again}
use Rattle.seg_generate.proofs.input.no_filters.Goals as goal

pub loop-batch-preserved : goal.loop-batch-preserved
loop-batch-preserved c = again None c.loop-batch.filters.items c.push.new.self.items c.loop-batch._batch c.loop-batch.invariant c.in_ok-push.ensures.items
