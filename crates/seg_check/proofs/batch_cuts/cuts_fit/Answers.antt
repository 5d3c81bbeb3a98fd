use Rattle.seg_check.specs.UserOperations.{operation_of}
use Rattle.seg_check.proofs.RisingCuts.{all_fit}
use Rattle.seg_check.proofs.batch_cuts.cuts_fit.Goals as goal

pub loop-cut-init : goal.loop-cut-init
loop-cut-init c = all_fit operation_of c.args.operations.now c.args.cuts.now
