-- The terms of a field in segments, joined.
use Rattle.std.specs.Prelude.{◌≡◌, ◌<◌, ◌^◌, ℕ, List, [], map, is_some, Option, Some, None}
use Rattle.std.specs.FinMap.{get, entries}
use Rattle.std.specs.List.{slice_get, AllByRecursion}
use Rattle.seg_values.specs.declared.schema.FieldEntry.{FieldEntry}
use Rattle.seg_model.specs.Fields.{is_indexed}
use Rattle.seg_model.specs.Join.{joined_terms}
use Rattle.seg_model.specs.DocumentTerms.{Posting, term_option}
use Rattle.seg_model.specs.Shape.{IsTermWith}
use Rattle.seg_postings.specs.OpenedFields.{ReadTerm, OpenField, written_terms}
use Rattle.seg_postings.specs.FieldSerializers.{TermWritten}
use Rattle.seg_postings.specs.TermMaps.{terms_held}
use Rattle.seg_postings.specs.RecordKinds.{kind_of}
use Rattle.seg_open.specs.OpenSegment.{OpenSegment, IsMarked, kept_count, part_of}
use Rattle.seg_merger.specs.MovedPostings.{SourceTerms}
use Rattle.seg_merger.specs.NewIds.{NumberedSegment, numbered_from, parts_of}

-- each field that is indexed is open, and no other
abbrev pub FieldsAreOpen : OpenSegment → Type 0
FieldsAreOpen p = map is_some p.fields ≡ map is_indexed p.schema

-- a field is open
abbrev pub IsOpenAt : ℕ → OpenSegment → Type 0
IsOpenAt field p = (opened : OpenField) × (slice_get p.fields field ≡ Some (Some opened))

-- the terms that are read of a field; none where it isn't open
abbrev pub terms_read : Option (Option OpenField) → List ReadTerm
terms_read None = []
terms_read (Some None) = []
terms_read (Some (Some f)) = f.terms

-- the terms of a field in a segment, with the new ids of its documents
abbrev pub source_of : ℕ → NumberedSegment → SourceTerms
source_of field n = record { terms = terms_read (slice_get n.part.fields field); ids = n.ids }

-- a field with this entry is open in a segment, and each of its terms has the form of full shape
pub record IsOfField (entry : FieldEntry) (field : ℕ) (p : OpenSegment) : Type 0 where
  pub opened : OpenField
  pub is_open : slice_get p.fields field ≡ Some (Some opened)
  pub marked : IsMarked p
  pub shape : (term : List ℕ) (postings : List Posting) → get (terms_held (written_terms opened)) term ≡ Some postings
      → IsTermWith entry p.documents term postings

-- the terms of a field can be joined: it is open in each segment, and the kept documents have their new ids
pub record CanJoin (numbered : List NumberedSegment) (field : ℕ) : Type 0 where
  pub ids : numbered ≡ numbered_from 0 (parts_of numbered)
  pub few : kept_count (parts_of numbered) < 2 ^ 31
  pub entry : FieldEntry
  pub segments : AllByRecursion (IsOfField entry field) (parts_of numbered)

-- these are the joined terms of a field, each recorded as the field asks
pub record AreJoined (numbered : List NumberedSegment) (field : ℕ) (terms : List TermWritten) : Type 0 where
  pub kinds : (entry : FieldEntry) → AllByRecursion (IsOfField entry field) (parts_of numbered)
      → AllByRecursion (λ t. t.kind ≡ kind_of (term_option entry t.bytes)) terms
  pub are : (entry : FieldEntry) → AllByRecursion (IsOfField entry field) (parts_of numbered)
      → map (λ t. (t.bytes, t.postings)) terms ≡ entries (joined_terms (map part_of (parts_of numbered)) (field, entry))
