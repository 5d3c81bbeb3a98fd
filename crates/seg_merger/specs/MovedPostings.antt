-- The postings of a term in segments, under the ids that documents have when these are joined.
use Rattle.std.specs.Prelude.{◌≡◌, ℕ, true, List, [], ◌∷◌, map, Option, Some, None, option_map, unwrap_or}
use Rattle.std.specs.FinMap.{find, is_sorted}
use Rattle.std.specs.List.{flat_map, slice_index_or}
use Rattle.std.specs.Cmp.Lexicographic.{slice_cmp}
use Rattle.std.specs.Ordering.{nat_cmp}
use Rattle.seg_common.specs.declared.term_info.TermInfo.{TermInfo}
use Rattle.seg_model.specs.DocumentTerms.{Posting}
use Rattle.seg_termdict.specs.SortedTerms.{RankedTerm}
use Rattle.seg_termdict.specs.Dictionary.{Term}
use Rattle.seg_termdict.specs.TermStreams.{ranked_terms}
use Rattle.seg_postings.specs.OpenedFields.{ReadTerm}

-- the terms of a field in a segment, and the new ids of the segment's documents
pub record SourceTerms : Type 0 where
  pub terms : List ReadTerm
  pub ids : List (Option ℕ)

-- a posting of a document that has a new id
abbrev pub under : ℕ → Posting → Posting
under id p = record { document = id; recorded = p.recorded }

-- a posting under the new id of its document, where this has one
abbrev pub under_id : Option ℕ → Posting → List Posting
under_id None p = []
under_id (Some id) p = under id p ∷ []

-- postings under the new ids of their documents
abbrev pub moved : List (Option ℕ) → List Posting → List Posting
moved ids ps = flat_map (λ p. under_id (slice_index_or ids p.document None) p) ps

-- terms by ascending keys
abbrev pub Ascend : List ReadTerm → Type 0
Ascend terms = is_sorted (slice_cmp nat_cmp) (map (λ t. (t.bytes, t.postings)) terms) ≡ true

-- the term with a key, among terms
abbrev pub term_at : List ℕ → List ReadTerm → Option ReadTerm
term_at key terms = find (slice_cmp nat_cmp) key (map (λ t. (t.bytes, t)) terms)

-- its postings; none where no term has the key
abbrev pub postings_with : List ℕ → List ReadTerm → List Posting
postings_with key terms = unwrap_or (option_map (λ t. t.postings) (term_at key terms)) []

-- the same in a segment, under new ids
abbrev pub moved_from : List ℕ → SourceTerms → List Posting
moved_from key source = moved source.ids (postings_with key source.terms)

-- those of segments, one after another
abbrev pub moved_from_all : List ℕ → List SourceTerms → List Posting
moved_from_all key sources = flat_map (moved_from key) sources

-- the terms with their infos
abbrev pub terms_of : SourceTerms → List Term
terms_of source = map (λ t. (t.bytes, t.info)) source.terms

-- the same with their ordinals
abbrev pub ranked_of : SourceTerms → List (RankedTerm TermInfo)
ranked_of source = ranked_terms (terms_of source)
