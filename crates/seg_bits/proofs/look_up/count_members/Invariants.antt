use Rattle.std.proofs.Common.{◌≡◌, take}
use Rattle.seg_bits.specs.BitSets.{bits_of, words_of, member_count}
use Rattle.seg_bits.proofs.look_up.count_members.Given as goal

-- the bits of the words so far are counted
abbrev pub invariant-loop-at : goal.invariant-loop-at
invariant-loop-at l = l.count ≡ member_count (bits_of (take l.at (words_of l.bytes)))
