use Rattle.std.proofs.Common.{◌≡◌, ◌+◌, ◌-◌, take, length}
use Rattle.std.specs.List.{sum_by}
use Rattle.seg_termdict.specs.Dictionary.{Term}
use Rattle.seg_termdict.specs.TermStreams.{ranked_terms}
use Rattle.seg_postings.specs.OpenedFields.{dictionary_terms}
use Rattle.seg_model.specs.SaturatedNumbers.{saturated}
use Rattle.seg_field_metadata.proofs.field_entries.part_sizes.Given as goal

-- the sizes are those of the terms so far
abbrev pub invariant-loop-stream : goal.invariant-loop-stream
invariant-loop-stream l = record {
  of : l.stream.terms ≡ ranked_terms (dictionary_terms l.opened);
  terms_so_far : l.terms ≡ saturated (48 + sum_by (λ (t : Term). 28 + length t.0) (take l.stream.taken (dictionary_terms l.opened)));
  postings_so_far : l.postings
      ≡ saturated (8 + sum_by (λ (t : Term). t.1.postings_end - t.1.postings_start) (take l.stream.taken (dictionary_terms l.opened)));
  positions_so_far : l.positions
      ≡ saturated (0 + sum_by (λ (t : Term). t.1.positions_end - t.1.positions_start) (take l.stream.taken (dictionary_terms l.opened)));
}

abbrev pub decreases-loop-stream : goal.decreases-loop-stream
decreases-loop-stream l = length l.stream.terms - l.stream.taken
