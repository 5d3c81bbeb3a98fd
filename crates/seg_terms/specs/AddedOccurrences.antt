-- One more occurrence of a term, in the newest document.
use Rattle.std.specs.Prelude.{ℕ, List, [], ◌∷◌, ◌++◌, ◌==◌, if◌then◌else◌, unwrap_or}
use Rattle.std.specs.FinMap.{get, insert}
use Rattle.seg_model.specs.Occurrences.{Occurrence}
use Rattle.seg_model.specs.DocumentTerms.{Recorded, positions, Posting, Terms}

-- recorded positions with one after them
abbrev pub to_position : Recorded → ℕ → Recorded
to_position (positions ps) p = positions (ps ++ p ∷ [])
to_position _ p = positions (p ∷ [])

-- the postings with a position in a document that no posting comes after
abbrev pub with_position : List Posting → ℕ → ℕ → List Posting
with_position [] document position = record { document = document; recorded = positions (position ∷ []) } ∷ []
with_position (p ∷ []) document position =
    if p.document == document then record { document = p.document; recorded = to_position p.recorded position } ∷ []
    else p ∷ record { document = document; recorded = positions (position ∷ []) } ∷ []
with_position (p ∷ q ∷ ps) document position = p ∷ with_position (q ∷ ps) document position

-- the terms with an occurrence in that document
abbrev pub with_occurrence : Terms → ℕ → Occurrence → Terms
with_occurrence terms document o = insert terms o.bytes
    (with_position (unwrap_or (get terms o.bytes) []) document o.position)

-- the terms with all these, in order
abbrev pub with_occurrences : Terms → ℕ → List Occurrence → Terms
with_occurrences terms document [] = terms
with_occurrences terms document (o ∷ os) = with_occurrences (with_occurrence terms document o) document os
