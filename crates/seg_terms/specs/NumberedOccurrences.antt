-- Occurrences that tell the numbers of their terms.
use Rattle.std.specs.Prelude.{ℕ, ◌+◌, ◌<◌, List, [], ◌∷◌, map, filter, nat_eq}
use Rattle.std.specs.FinMap.{from_entries}
use Rattle.std.specs.List.{AllByRecursion}
use Rattle.seg_model.specs.DocumentTerms.{Terms}
use Rattle.seg_terms.specs.TermEntries.{TermEntries}
use Rattle.seg_terms.specs.PostingGroups.{grouped}
use Rattle.seg_terms.specs.declared.hit.Hit.{Hit}
use Rattle.seg_terms.specs.declared.hit.NumberedHit.{NumberedHit}

-- the occurrences of the term with a number, in their order
abbrev pub hits_of : ℕ → List NumberedHit → List Hit
hits_of number hits = map (λ h. h.hit) (filter (λ h. nat_eq number h.term) hits)

-- all occurrences are of the first terms, this many of them
abbrev pub AreBelow : ℕ → List NumberedHit → Type 0
AreBelow count hits = AllByRecursion (λ h. h.term < count) hits

-- terms with the numbers from `first` on, each with its postings
abbrev pub numbered_from : ℕ → List (List ℕ) → List NumberedHit → TermEntries
numbered_from first [] hits = []
numbered_from first (key ∷ keys) hits = (key, grouped (hits_of first hits)) ∷ numbered_from (first + 1) keys hits

-- the terms by their bytes, where a term's number is its place
abbrev pub numbered_terms : List (List ℕ) → List NumberedHit → Terms
numbered_terms keys hits = from_entries (numbered_from 0 keys hits)
