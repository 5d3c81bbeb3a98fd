use Rattle.std.proofs.Common.{◌≤◌, ◌-◌, ◌++◌, List, length, drop}
use Rattle.seg_postings.specs.declared.field_space.InvertedIndexFieldSpace.{InvertedIndexFieldSpace}
use Rattle.seg_postings.specs.JsonSpaces.{AreSpaces}
use Rattle.seg_postings.proofs.json_spaces.json_spaces.Given as goal

-- the spaces so far, with those of the terms that are left, are all
abbrev pub invariant-loop-start : goal.invariant-loop-start
invariant-loop-start l = record {
  within : l.start ≤ length l.terms;
  so_far : (rest : List InvertedIndexFieldSpace) → AreSpaces (drop l.start l.terms) rest → AreSpaces l.terms (l.found.items ++ rest);
}

abbrev pub decreases-loop-start : goal.decreases-loop-start
decreases-loop-start l = length l.terms - l.start
