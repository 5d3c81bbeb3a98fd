-- The terms of a field, as they are written.
use Rattle.std.specs.Prelude.{ℕ, ◌-◌, ◌^◌, min, List, [], map, Option, Some, None}
use Rattle.seg_model.specs.DocumentTerms.{Recorded, positions, Posting}
use Rattle.seg_postings.specs.declared.asked_kind.AskedKind.{AskedKind}
use Rattle.seg_postings.specs.declared.record_kind.RecordKind.{RecordKind}
use Rattle.seg_postings.specs.FieldSerializers.{TermWritten}
use Rattle.seg_build.specs.FieldTerms.{FieldTerms, kept_as, kind_in}
use Rattle.seg_build.specs.TokenTotal.{token_total}
use Rattle.seg_terms.specs.declared.hit.Hit.{Hit}

-- what a kind keeps of the hits in one document
abbrev pub kept_hits : RecordKind → List Hit → Recorded
kept_hits kind hits = kept_as kind (positions (map (λ h. h.position) hits))

-- a term with its postings, and what these keep
abbrev pub written : AskedKind → List ℕ × List Posting → TermWritten
written asked e = record { bytes = e.0; kind = kind_in asked e.0; postings = e.1 }

-- the terms of a field; none where there is no such field
abbrev pub all_written : Option FieldTerms → List TermWritten
all_written None = []
all_written (Some field) = map (written field.asked) field.terms

-- the total of their tokens, at most the greatest u64
abbrev pub written_total : Option FieldTerms → ℕ
written_total None = 0
written_total (Some field) = min (2 ^ 64 - 1) (token_total field.terms)
