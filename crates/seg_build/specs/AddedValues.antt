-- What one more value does to a field while documents come.
use Rattle.std.specs.Prelude.{ℕ, ◌+◌, ◌<◌, ◌^◌, List, [], map, length, ◌==◌, if◌then◌else◌}
use Rattle.seg_model.specs.Occurrences.{Occurrence, at_zero, counted, placed_from, start_after}
use Rattle.seg_check.specs.IndexedValues.{IndexedContent, tokens, leaves, terms}
use Rattle.seg_terms.specs.AddedOccurrences.{with_occurrences}
use Rattle.seg_build.specs.FieldState.{FieldSoFar}
use Rattle.seg_build.specs.LeafPositions.{after_leaves, leaves_occur, leaves_count, LeavesFit, kept_starts}
use Rattle.seg_build.specs.PathStarts.{PathStarts, path_start}

-- where texts begin in a document: the next one of a text field, and that of each joined path
pub record Starts : Type 0 where
  pub here : ℕ
  pub at : List ℕ → ℕ

-- at the beginning of a document
abbrev pub first_starts : Starts
first_starts = record { here = 0; at = λ _. 0 }

-- the occurrences in a value
abbrev pub occurrences_in : Starts → IndexedContent → List Occurrence
occurrences_in starts (tokens ts) = placed_from starts.here [] ts
occurrences_in starts (leaves ls) = leaves_occur starts.at ls
occurrences_in starts (terms ts) = map at_zero ts

-- how many these are
abbrev pub count_in : IndexedContent → ℕ
count_in (tokens ts) = length (counted ts)
count_in (leaves ls) = leaves_count ls
count_in (terms ts) = length ts

-- where texts begin after a value
abbrev pub next_starts : Starts → IndexedContent → Starts
next_starts starts (tokens ts) = record { here = start_after starts.here ts; at = starts.at }
next_starts starts (leaves ls) = record { here = starts.here; at = after_leaves starts.at ls }
next_starts starts (terms ts) = starts

-- each text in a value ends at a u32
abbrev pub TextsFit : Starts → IndexedContent → Type 0
TextsFit starts (tokens ts) = start_after starts.here ts < 2 ^ 32
TextsFit starts (leaves ls) = LeavesFit starts.at ls
TextsFit starts (terms ts) = Unit {0}

-- what a value adds to the length of its field: the tokens of a text, or one; a JSON field has none
abbrev pub length_in : IndexedContent → ℕ
length_in (tokens ts) = length (counted ts)
length_in (leaves ls) = 0
length_in (terms ts) = 1

-- what is known of each joined path after a value
abbrev pub starts_with : ℕ → PathStarts → IndexedContent → PathStarts
starts_with document starts (leaves ls) = kept_starts document starts ls
starts_with document starts _ = starts

-- where texts of a document begin
abbrev pub start_of : ℕ → FieldSoFar → Starts
start_of document field = record {
  here = if field.document == document then field.start else 0;
  at = path_start document field.starts;
}

-- the length of the field in a document so far
abbrev pub length_of : ℕ → FieldSoFar → ℕ
length_of document field = if field.document == document then field.len else 0

-- one more value of a document fits: its texts end at a u32, and the length is a u32
pub record Fits (document : ℕ) (content : IndexedContent) (field : FieldSoFar) : Type 0 where
  pub next : TextsFit (start_of document field) content
  pub len : length_of document field + length_in content < 2 ^ 32

-- a field with one more value of a document
abbrev pub added : ℕ → FieldSoFar → IndexedContent → FieldSoFar
added document field content = record {
  terms = with_occurrences field.terms document (occurrences_in (start_of document field) content);
  starts = starts_with document field.starts content;
  document = document;
  start = (next_starts (start_of document field) content).here;
  len = length_of document field + length_in content;
}
