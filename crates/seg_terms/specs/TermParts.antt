-- Terms whose occurrences are parts of one list.
use Rattle.std.specs.Prelude.{◌≡◌, ℕ, ◌≤◌, List, [], ◌∷◌, map, length, slice_range}
use Rattle.std.specs.List.{IsDistinct}
use Rattle.std.specs.Str.{bytes_eq}
use Rattle.seg_model.specs.DocumentTerms.{Posting}
use Rattle.seg_terms.specs.TermEntries.{TermEntries}
use Rattle.seg_terms.specs.PostingGroups.{grouped}
use Rattle.seg_terms.specs.OrderedOccurrences.{AreOrdered}
use Rattle.seg_terms.specs.declared.hit.Hit.{Hit}
use Rattle.seg_terms.specs.declared.hit.NumberedHit.{NumberedHit}
use Rattle.seg_terms.specs.declared.term_part.TermPart.{TermPart}

-- a term with the postings of its part
abbrev pub entry_of : List Hit → TermPart → List ℕ × List Posting
entry_of hits t = (t.key, grouped (slice_range hits t.start t.end))

-- and each of them
abbrev pub entries_of : List TermPart → List Hit → TermEntries
entries_of terms hits = map (entry_of hits) terms

-- a part lies within this many occurrences
pub record IsWithin (count : ℕ) (t : TermPart) : Type 0 where
  pub forward : t.start ≤ t.end
  pub within : t.end ≤ count

-- terms in this order, of which the first begins at `start`, each ends where the next begins
abbrev pub cut_from : ℕ → List (List ℕ) → List ℕ → List TermPart
cut_from start [] ends = []
cut_from start (key ∷ keys) [] = []
cut_from start (key ∷ keys) (end ∷ ends) = record { key = key; start = start; end = end } ∷ cut_from end keys ends

-- the terms of these keys, each with its part of all occurrences, in the order of their numbers
pub record AreCut (keys : List (List ℕ)) (hits : List NumberedHit) (terms : List TermPart)
    (ordered : List Hit) : Type 0 where
  pub distinct : IsDistinct bytes_eq keys
  pub ends : List ℕ
  pub together : AreOrdered (length keys) hits ordered ends
  pub cut : terms ≡ cut_from 0 keys ends
