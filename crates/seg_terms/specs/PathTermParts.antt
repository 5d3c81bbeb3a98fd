-- Terms of a JSON field whose occurrences are parts of one list.
use Rattle.std.specs.Prelude.{ℕ, List, map, slice_range}
use Rattle.seg_model.specs.DocumentTerms.{Posting}
use Rattle.seg_terms.specs.TermEntries.{TermEntries}
use Rattle.seg_terms.specs.PostingGroups.{grouped}
use Rattle.seg_terms.specs.PathKeys.{IsPathKey, term_on}
use Rattle.seg_terms.specs.declared.hit.Hit.{Hit}
use Rattle.seg_terms.specs.declared.term_part.TermPart.{TermPart}

-- a term with the postings of its part
abbrev pub path_entry_of : List (List ℕ) → List Hit → TermPart → List ℕ × List Posting
path_entry_of paths hits t = (term_on paths t.key, grouped (slice_range hits t.start t.end))

-- and each of them
abbrev pub path_entries_of : List (List ℕ) → List TermPart → List Hit → TermEntries
path_entries_of paths terms hits = map (path_entry_of paths hits) terms

-- a term is on one of this many paths
abbrev pub IsOnPath : ℕ → TermPart → Type 0
IsOnPath count t = IsPathKey count t.key
