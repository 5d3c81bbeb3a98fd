-- The postings of a list of occurrences: those next to one another that are in one document make one posting.
use Rattle.std.specs.Prelude.{ℕ, List, [], ◌∷◌, ◌==◌, if◌then◌else◌}
use Rattle.seg_model.specs.DocumentTerms.{Recorded, positions, Posting}
use Rattle.seg_terms.specs.declared.hit.Hit.{Hit}

-- recorded positions with one before them
abbrev pub from_position : ℕ → Recorded → Recorded
from_position p (positions ps) = positions (p ∷ ps)
from_position p _ = positions (p ∷ [])

-- postings with an occurrence before them
abbrev pub joined : Hit → List Posting → List Posting
joined h [] = record { document = h.document; recorded = positions (h.position ∷ []) } ∷ []
joined h (p ∷ ps) =
    if h.document == p.document
    then record { document = h.document; recorded = from_position h.position p.recorded } ∷ ps
    else record { document = h.document; recorded = positions (h.position ∷ []) } ∷ p ∷ ps

-- the postings that occurrences make, in their order
abbrev pub grouped : List Hit → List Posting
grouped [] = []
grouped (h ∷ hs) = joined h (grouped hs)
