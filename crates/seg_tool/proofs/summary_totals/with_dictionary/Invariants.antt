use Rattle.std.proofs.Common.{◌≡◌, ◌-◌, drop, map, length}
use Rattle.seg_termdict.specs.TermStreams.{ranked_terms}
use Rattle.seg_postings.specs.OpenedFields.{ReadTerm, dictionary_terms}
use Rattle.seg_tool.specs.Summaries.{with_terms}
use Rattle.seg_tool.proofs.summary_totals.with_dictionary.Given as goal

abbrev pub invariant-loop-terms : goal.invariant-loop-terms
invariant-loop-terms l = record {
  of : l.terms.terms ≡ ranked_terms (dictionary_terms l.field);
  counted : with_terms l.so_far (map (λ (t : ReadTerm). t.bytes) (drop l.terms.taken l.field.terms)) ≡ with_terms l.fn.totals (map (λ (t : ReadTerm). t.bytes) l.field.terms);
}

abbrev pub decreases-loop-terms : goal.decreases-loop-terms
decreases-loop-terms l = length l.terms.terms - l.terms.taken
