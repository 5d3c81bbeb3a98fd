use Rattle.std.proofs.Common.{◌≡◌, ◌++◌, drop, take}
use Rattle.seg_postings.specs.JsonSpaces as spaces
use Rattle.seg_postings.proofs.json_spaces.path_and_type.Given as goal

-- the bytes so far belong to it
abbrev pub invariant-loop-at : goal.invariant-loop-at
invariant-loop-at l = take l.at l.term ++ spaces.path_and_type (drop l.at l.term) ≡ spaces.path_and_type l.term
