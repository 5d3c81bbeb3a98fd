use Rattle.std.proofs.Common.{◌≡◌, max, drop}
use Rattle.seg_model.specs.Occurrences.{counted, reach}
use Rattle.seg_check.proofs.size.reach.Given as goal

-- what is so far, with what is left, is what all the tokens give
abbrev pub invariant-loop-token : goal.invariant-loop-token
invariant-loop-token l = max l.end (reach 0 (counted (drop l.token-index l.tokens))) ≡ reach 0 (counted l.tokens)
