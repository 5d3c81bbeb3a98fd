use Rattle.std.proofs.Common.{◌≡◌, ◌-◌, drop, length}
use Rattle.std.specs.List.{list_all}
use Rattle.seg_termdict.specs.TermStreams.{ranked_terms}
use Rattle.seg_postings.specs.TermForms.{is_formed}
use Rattle.seg_postings.proofs.term_form.each_is_formed.Given as goal

-- what is left decides
abbrev pub invariant-loop-stream : goal.invariant-loop-stream
invariant-loop-stream l = record {
  of : l.stream.terms ≡ ranked_terms l.terms;
  left : list_all (is_formed l.kind) (drop l.stream.taken l.terms) ≡ list_all (is_formed l.kind) l.terms;
}

abbrev pub decreases-loop-stream : goal.decreases-loop-stream
decreases-loop-stream l = length l.stream.terms - l.stream.taken
