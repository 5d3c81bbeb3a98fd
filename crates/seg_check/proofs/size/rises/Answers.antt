use Rattle.seg_model.specs.Occurrences.{counted}
use Rattle.seg_check.proofs.RisingPositions.{rises_first}
use Rattle.seg_check.proofs.size.rises.Goals as goal

pub loop-token-init : goal.loop-token-init
loop-token-init c = rises_first (counted c.args.tokens.now)
