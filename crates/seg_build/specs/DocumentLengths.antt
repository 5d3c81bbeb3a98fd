-- The lengths of the fields of one document, as they are recorded.
use Rattle.std.specs.Prelude.{ℕ, ◌≤◌, ◌≡◌, List, [], ◌∷◌, map, length, Bool, false, nat_le, if◌then◌else◌, Option, Some, None, option_map, IfSome}
use Rattle.std.specs.List.{slice_get, AllByRecursion}
use Rattle.seg_values.specs.Tree.{Document}
use Rattle.seg_model.specs.Fields.{Schema, Analyzer}
use Rattle.seg_norms.specs.FieldNorms.{at_field, filled, with_length}
use Rattle.seg_build.specs.BatchContents.{kept_norms}
use Rattle.seg_build.specs.AddedValues.{length_of}
use Rattle.seg_build.specs.FieldState.{FieldSoFar}

-- no field has more ids than there are documents before this one
abbrev pub AreUpTo : ℕ → List (Option (List ℕ)) → Type 0
AreUpTo document kept = AllByRecursion (λ k. IfSome k (λ ids. length ids ≤ document)) kept

-- the ids of these documents, where those that a field lacks at its end are 0
pub record HaveLengths (schema : Schema) (analyzer : Analyzer) (documents : List Document)
    (kept : List (Option (List ℕ))) : Type 0 where
  pub up_to : AreUpTo (length documents) kept
  pub filled : map (option_map (filled (length documents))) kept ≡ kept_norms schema analyzer documents

-- whether a field has lengths, and none of a document yet
abbrev pub lacks_length : ℕ → Option (List ℕ) → Bool
lacks_length document None = false
lacks_length document (Some ids) = nat_le (length ids) document

-- the ids of a field with the id of a document's length, unless it is there
abbrev pub recorded_once : ℕ → ℕ → List ℕ → List ℕ
recorded_once document len ids = if lacks_length document (Some ids) then with_length document len ids else ids

-- the length of a field in a document, if it is there
abbrev pub length_at : ℕ → Option FieldSoFar → ℕ
length_at document None = 0
length_at document (Some field) = length_of document field

-- the ids of all fields with that of a document's length in one field
abbrev pub with_length_of : ℕ → List FieldSoFar → ℕ → List (Option (List ℕ)) → List (Option (List ℕ))
with_length_of document fields place kept = at_field place
    (recorded_once document (length_at document (slice_get fields place))) kept

-- and in some fields
abbrev pub with_lengths : ℕ → List FieldSoFar → List ℕ → List (Option (List ℕ)) → List (Option (List ℕ))
with_lengths document fields [] kept = kept
with_lengths document fields (place ∷ places) kept = with_lengths document fields places
    (with_length_of document fields place kept)

-- the ids of each field that has lengths, with the id of a document's length
abbrev pub with_each_length : ℕ → List FieldSoFar → List (Option (List ℕ)) → List (Option (List ℕ))
with_each_length document [] kept = kept
with_each_length document (f ∷ fs) [] = []
with_each_length document (f ∷ fs) (k ∷ ks) = option_map (with_length document (length_of document f)) k
    ∷ with_each_length document fs ks
