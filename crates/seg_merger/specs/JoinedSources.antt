-- The terms of a field in segments, merged key by key.
use Rattle.std.specs.Prelude.{◌<◌, ℕ, List, map, length, option_to_list}
use Rattle.std.specs.FinMap.{entries}
use Rattle.std.specs.List.{AllByRecursion, flat_map}
use Rattle.seg_termdict.specs.MergedTerms.{merged_terms}
use Rattle.seg_termdict.specs.MergedStreams.{MergedTerm}
use Rattle.seg_postings.specs.OpenedFields.{ReadTerm}
use Rattle.seg_postings.specs.FieldSerializers.{TermWritten}
use Rattle.seg_segment.specs.WrittenTerms.{AreOfTerm, term_with}
use Rattle.seg_merger.specs.MovedPostings.{SourceTerms, Ascend, moved_from_all, ranked_of}

-- the terms of a segment ascend, and each document in which one occurs has a place among the ids
pub record IsJoinable (source : SourceTerms) : Type 0 where
  pub ascend : Ascend source.terms
  pub within : AllByRecursion (λ (t : ReadTerm). AllByRecursion (λ p. p.document < length source.ids) t.postings)
      source.terms

-- so do those of each segment, and the postings of a key in all of them are those of a term
pub record AreJoinable (sources : List SourceTerms) : Type 0 where
  pub each : AllByRecursion IsJoinable sources
  pub postings : (key : List ℕ) → AreOfTerm (moved_from_all key sources)

-- the joined term at a merged one, where it has a posting
abbrev pub joined_at : List SourceTerms → MergedTerm → List TermWritten
joined_at sources t = option_to_list (term_with t.0 (moved_from_all t.0 sources))

-- the joined terms
abbrev pub terms_joined : List SourceTerms → List TermWritten
terms_joined sources = flat_map (joined_at sources) (entries (merged_terms (map ranked_of sources)))
