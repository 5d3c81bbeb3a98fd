use Rattle.std.proofs.Common.{◌≡◌, ◌++◌, ◌-◌, drop, map, length}
use Rattle.std.specs.List.{flat_map}
use Rattle.seg_termdict.specs.TermStreams.{ranked_terms}
use Rattle.seg_postings.specs.OpenedFields.{ReadTerm, dictionary_terms}
use Rattle.seg_text.specs.FieldText.{term_line}
use Rattle.seg_tool.proofs.segment_text.push_term_lines.Given as goal

abbrev pub invariant-loop-terms : goal.invariant-loop-terms
invariant-loop-terms l = record {
  of : l.terms.terms ≡ ranked_terms (dictionary_terms l.field);
  written : l.out.items ++ flat_map term_line (map (λ (t : ReadTerm). (t.bytes, t.postings)) (drop l.terms.taken l.field.terms)) ≡ l.initial.out.items ++ flat_map term_line (map (λ (t : ReadTerm). (t.bytes, t.postings)) l.field.terms);
}

abbrev pub decreases-loop-terms : goal.decreases-loop-terms
decreases-loop-terms l = length l.terms.terms - l.terms.taken
