-- The summary of what was generated: what was asked for, and of each segment how much it has.
use Rattle.std.specs.Prelude.{ℕ, List, [], ◌∷◌, ◌++◌, if◌then◌else◌, map, length, sum_by, codes, decimal}
use Rattle.std.specs.FinMap.{entries}
use Rattle.seg_common.specs.SegmentIds.{id_text}
use Rattle.seg_model.specs.Fields.{Schema, is_indexed}
use Rattle.seg_model.specs.DocumentTerms.{Terms}
use Rattle.seg_generate.specs.declared.summary.TermTotals.{TermTotals}

-- the first line
abbrev pub generated_line : List ℕ
generated_line = codes "generated 2250 operations 2000 documents" ++ 10 ∷ []

-- `LABEL ID docs N alive A terms T bytes B`
abbrev pub summary_line : List ℕ → ℕ → ℕ → ℕ → TermTotals → List ℕ
summary_line label id documents alive totals =
    label ++ 32 ∷ (id_text id ++ (codes " docs " ++ (decimal documents ++ (codes " alive " ++ (decimal alive
    ++ (codes " terms " ++ (decimal totals.terms ++ (codes " bytes " ++ (decimal totals.bytes ++ 10 ∷ [])))))))))

-- the terms of the indexed fields of a schema, field by field
abbrev pub indexed_terms : Schema → List Terms → List (List ℕ)
indexed_terms [] terms = []
indexed_terms (entry ∷ schema) [] = []
indexed_terms (entry ∷ schema) (terms ∷ others) = (if is_indexed entry then map (λ e. e.0) (entries terms) else [])
    ++ indexed_terms schema others

-- their number, and the sum of their lengths
abbrev pub totals_of : List (List ℕ) → TermTotals
totals_of terms = record { terms = length terms; bytes = sum_by length terms }

-- the line of a segment with these terms, field by field
abbrev pub summary_text : Schema → List ℕ → ℕ → ℕ → ℕ → List Terms → List ℕ
summary_text schema label id documents alive terms =
    summary_line label id documents alive (totals_of (indexed_terms schema terms))
