use Rattle.std.proofs.Common.{◌≡◌, take, map}
use Rattle.seg_values.specs.ValueTrees.{tree_of, member_of}
use Rattle.seg_values.proofs.equality.+equality.Given as goal

-- what was passed is the same
abbrev pub invariant-are_same-loop-at : goal.invariant-are_same-loop-at
invariant-are_same-loop-at l = (map tree_of l.x-items ≡ l.a) × (take l.at l.a ≡ take l.at l.b)

abbrev pub invariant-are_same_members-loop-at : goal.invariant-are_same_members-loop-at
invariant-are_same_members-loop-at l = (map member_of l.x-items ≡ l.a) × (take l.at l.a ≡ take l.at l.b)
