-- Postings that can be written: what each kind records, by ascending documents.
use Rattle.std.specs.Prelude.{◌≡◌, ℕ, ◌+◌, ◌-◌, ◌<◌, ◌≤◌, ◌^◌, List, [], ◌∷◌, length}
use Rattle.seg_model.specs.DocumentTerms.{Recorded, presence, frequency, positions, Posting}
use Rattle.seg_postings.specs.declared.record_kind.RecordKind.{RecordKind}
use Rattle.seg_postings.specs.declared.record_kind.RecordKind.TheVariants.{Documents, Counts, Positions}

-- what a kind records of a count, and of positions
abbrev pub recorded_as : RecordKind → ℕ → List ℕ → Recorded
recorded_as Documents count places = presence
recorded_as Counts count places = frequency count
recorded_as Positions count places = positions places

-- positions that don't fall, from `before` on, below 2 ^ 32
abbrev pub Rise : ℕ → List ℕ → Type 0
Rise before [] = Unit {0}
Rise before (p ∷ ps) = (before ≤ p) × (p < 2 ^ 32) × Rise p ps

-- what is recorded has the form of the kind, and its count is from 1 to 2 ^ 32 - 1
abbrev pub IsOfKind : RecordKind → Recorded → Type 0
IsOfKind Documents r = r ≡ presence
IsOfKind Counts r = (n : ℕ) × (1 ≤ n) × (n < 2 ^ 32) × (r ≡ frequency n)
IsOfKind Positions r = (ps : List ℕ) × (1 ≤ length ps) × (length ps < 2 ^ 32) × Rise 0 ps × (r ≡ positions ps)

-- postings of a kind by ascending documents, the first at least `least` after `before`
abbrev pub AreWritable : RecordKind → ℕ → ℕ → List Posting → Type 0
AreWritable kind before least [] = Unit {0}
AreWritable kind before least (p ∷ ps) =
    (before + least ≤ p.document) × (p.document < 2 ^ 32 - 1) × IsOfKind kind p.recorded
    × AreWritable kind p.document 1 ps
