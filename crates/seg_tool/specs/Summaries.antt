-- The summary of a segment that is open.
use Rattle.std.specs.Prelude.{ℕ, ◌+◌, List, [], map, length, sum_by, Option, Some, None}
use Rattle.std.specs.FinMap.{entries}
use Rattle.seg_bits.specs.BitSets.{member_count}
use Rattle.seg_postings.specs.OpenedFields.{OpenField}
use Rattle.seg_open.specs.OpenSegment.{OpenSegment, terms_in}
use Rattle.seg_generate.specs.SummaryText.{summary_text}
use Rattle.seg_generate.specs.declared.summary.TermTotals.{TermTotals}

-- its line
abbrev pub segment_summary : List ℕ → OpenSegment → List ℕ
segment_summary label s = summary_text s.schema label s.id s.documents (member_count s.alive) (map terms_in s.fields)

-- the terms at a place of the fields: none where no field is open
abbrev pub opened_terms : Option (Option OpenField) → List (List ℕ)
opened_terms (Some (Some f)) = map (λ e. e.0) (entries (terms_in (Some f)))
opened_terms (Some None) = []
opened_terms None = []

-- totals, with these terms too
abbrev pub with_terms : TermTotals → List (List ℕ) → TermTotals
with_terms totals terms = record { terms = totals.terms + length terms; bytes = totals.bytes + sum_by length terms }
