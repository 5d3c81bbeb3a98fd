use Rattle.std.proofs.Common.{◌≡◌, ◌+◌, ◌≤◌, map, length}
use Rattle.seg_model.specs.Occurrences.{at_zero}
use Rattle.seg_terms.specs.AddedOccurrences.{with_occurrences}
use Rattle.seg_build.proofs.FacetPrefixes.{left_at}
use Rattle.seg_build.proofs.value_terms.add_prefixes.Given as goal

-- what is so far, with what is left, is all
abbrev pub invariant-loop-at : goal.invariant-loop-at
invariant-loop-at l =
    record {
      terms : with_occurrences l.terms l.document (map at_zero (left_at l.encoded l.at)) ≡ with_occurrences l.initial.terms l.document (map at_zero (left_at l.encoded 0));
      count : l.count + length (left_at l.encoded l.at) ≡ 1 + length (left_at l.encoded 0);
      few : l.count ≤ l.at + 1;
    }
