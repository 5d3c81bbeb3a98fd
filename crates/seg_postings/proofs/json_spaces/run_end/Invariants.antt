use Rattle.std.proofs.Common.{◌≡◌, ◌+◌, drop}
use Rattle.std.specs.List.{prefix_len}
use Rattle.seg_postings.specs.JsonSpaces.{begins_with}
use Rattle.seg_postings.proofs.json_spaces.run_end.Given as goal

-- the terms so far begin with it, and those that are left go on
abbrev pub invariant-loop-place : goal.invariant-loop-place
invariant-loop-place l = l.place + prefix_len (begins_with l.head) (drop l.place l.terms) ≡ l.start + prefix_len (begins_with l.head) (drop l.start l.terms)
