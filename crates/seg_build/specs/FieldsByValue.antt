-- The fields of a schema while documents come, value by value: steps of which no public clause speaks.
use Rattle.std.specs.Prelude.{ℕ, ◌+◌, List, [], ◌∷◌, Option, Some, None, IsSomeAnd, slice_set}
use Rattle.std.specs.FinMap as fin
use Rattle.std.specs.List.{slice_get}
use Rattle.seg_values.specs.Tree.{Tree, Document}
use Rattle.seg_model.specs.Fields.{Schema, Analyzer}
use Rattle.seg_check.specs.IndexedValues.{IndexedContent, content_at}
pub use Rattle.seg_check.specs.IndexedValues.{indexed_part}
use Rattle.seg_build.specs.AddedValues.{added, Fits}
use Rattle.seg_build.specs.FieldState.{FieldSoFar}

-- a field of no documents
abbrev pub fresh : FieldSoFar
fresh = record { terms = fin.empty; starts = fin.empty; document = 0; start = 0; len = 0 }

-- the fields where the one at a place has one more value
abbrev pub added_at : ℕ → ℕ → List FieldSoFar → IndexedContent → Option FieldSoFar → List FieldSoFar
added_at id place fields content None = fields
added_at id place fields content (Some field) = slice_set fields place (added id field content)

-- the fields with some more values of a document
abbrev pub with_values : ℕ → List FieldSoFar → List (ℕ × IndexedContent) → List FieldSoFar
with_values id fields [] = fields
with_values id fields (v ∷ vs) = with_values id (added_at id v.0 fields v.1 (slice_get fields v.0)) vs

-- these values are of fields that are there, and each fits in its turn
abbrev pub AllFit : ℕ → List FieldSoFar → List (ℕ × IndexedContent) → Type 0
AllFit id fields [] = Unit {0}
AllFit id fields (v ∷ vs) =
    IsSomeAnd (slice_get fields v.0) (Fits id v.1) × AllFit id (added_at id v.0 fields v.1 (slice_get fields v.0)) vs

module _ (schema : Schema) (analyzer : Analyzer) where
  -- the fields with one more value of a document
  abbrev pub with_pair : ℕ → List FieldSoFar → ℕ × Tree → List FieldSoFar
  with_pair id fields p = added_at id p.0 fields (content_at analyzer p.1 (slice_get schema p.0)) (slice_get fields p.0)

  -- the fields with some more values, in order
  abbrev pub with_pairs : ℕ → List FieldSoFar → Document → List FieldSoFar
  with_pairs id fields [] = fields
  with_pairs id fields (p ∷ ps) = with_pairs id (with_pair id fields p) ps

  -- the fields with what is indexed of some more documents, of which the first has the id `first`
  abbrev pub with_documents : ℕ → List FieldSoFar → List Document → List FieldSoFar
  with_documents first fields [] = fields
  with_documents first fields (d ∷ ds) = with_documents (first + 1) (with_pairs first fields (indexed_part schema d)) ds
