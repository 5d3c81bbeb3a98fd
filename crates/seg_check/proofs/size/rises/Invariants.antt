use Rattle.std.proofs.Common.{◌≡◌, drop}
use Rattle.seg_model.specs.DocumentCheck.{is_rising}
use Rattle.seg_model.specs.Occurrences.{counted}
use Rattle.seg_check.proofs.RisingPositions.{rises}
use Rattle.seg_check.proofs.size.rises.Given as goal

-- what is left decides
abbrev pub invariant-loop-token : goal.invariant-loop-token
invariant-loop-token l = rises l.last (counted (drop l.token-index l.tokens)) ≡ is_rising (counted l.tokens)
