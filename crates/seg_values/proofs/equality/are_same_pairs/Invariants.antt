use Rattle.std.proofs.Common.{◌≡◌, take}
use Rattle.seg_values.proofs.equality.are_same_pairs.Given as goal

-- what was passed is the same
abbrev pub invariant-loop-at : goal.invariant-loop-at
invariant-loop-at l = take l.at l.a ≡ take l.at l.b
