use Rattle.std.proofs.Common.{◌≡◌, ◌-◌, drop}
use Rattle.seg_bits.specs.BitSets.{set_in, numbers_from}
use Rattle.seg_bits.proofs.look_up.first_member.Given as goal

-- no number was passed over
abbrev pub invariant-loop-at : goal.invariant-loop-at
invariant-loop-at l = numbers_from l.from (drop l.from (set_in l.bytes)) ≡ numbers_from l.at (drop l.at (set_in l.bytes))

abbrev pub decreases-loop-at : goal.decreases-loop-at
decreases-loop-at l = l.max_value - l.at
