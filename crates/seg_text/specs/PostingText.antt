-- The text of a posting.
use Rattle.std.specs.Prelude.{ℕ, List, [], ◌∷◌, ◌++◌, Bool, true, false, length, decimal}
use Rattle.serde_json.specs.Written.{comma_if}
use Rattle.seg_model.specs.DocumentTerms.{Recorded, presence, frequency, positions, Posting}
use Rattle.seg_text.specs.declared.posting.RecordedRef.{RecordedRef}
use Rattle.seg_text.specs.declared.posting.RecordedRef.TheVariants.{Presence, Frequency, Positions}

-- numbers with commas between them, and before the first if something is there
abbrev pub numbers_text : Bool → List ℕ → List ℕ
numbers_text later [] = []
numbers_text later (n ∷ ns) = comma_if later ++ (decimal n ++ numbers_text true ns)

-- nothing, `xCOUNT`, or `xCOUNT@P,P`
abbrev pub recorded_text : Recorded → List ℕ
recorded_text presence = []
recorded_text (frequency n) = 120 ∷ decimal n
recorded_text (positions ps) = 120 ∷ (decimal (length ps) ++ 64 ∷ numbers_text false ps)

-- a space, the document, and what is recorded of it
abbrev pub posting_text : Posting → List ℕ
posting_text p = 32 ∷ (decimal p.document ++ recorded_text p.recorded)

-- what is recorded, as a value
abbrev pub recorded_of : RecordedRef → Recorded
recorded_of Presence = presence
recorded_of (Frequency n) = frequency n
recorded_of (Positions ps) = positions ps.now
