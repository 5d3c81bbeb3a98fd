use Rattle.std.proofs.Common.{◌≡◌, ◌++◌, drop, take}
use Rattle.seg_model.specs.Shape as shape
use Rattle.seg_postings.proofs.term_form.path_part.Given as goal

-- the bytes so far belong to the path
abbrev pub invariant-loop-at : goal.invariant-loop-at
invariant-loop-at l = take l.at l.bytes ++ shape.path_part (drop l.at l.bytes) ≡ shape.path_part l.bytes
