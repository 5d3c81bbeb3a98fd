-- What is asked of each file of a segment, together with those that are read before it.
use Rattle.std.specs.Prelude.{◌≡◌, ℕ, List, length, true, Option, Some}
use Rattle.std.specs.List.{slice_get}
use Rattle.seg_common.specs.declared.name.SegmentComponent.{SegmentComponent}
use Rattle.seg_common.specs.declared.name.SegmentComponent.TheVariants.{Terms, Store, Postings, Positions, FastFields, FieldNorms}
use Rattle.seg_values.specs.declared.schema.FieldEntry.{FieldEntry}
use Rattle.seg_model.specs.Fields.{Schema, is_indexed}
use Rattle.seg_directory.specs.CompositeFiles.{Part, composite, field_of}
use Rattle.seg_column_format.specs.SchemaColumns.{HoldColumns}
use Rattle.seg_store.specs.Block.{Block}
use Rattle.seg_store.specs.Store.{store_of, documents_of}
use Rattle.seg_store.specs.StoredFields.{have_stored_fields}
use Rattle.seg_postings.specs.CompletedPostings.{ArePostingsBy}
use Rattle.seg_postings.specs.OpenedFields.{OpenField, rules_of}
use Rattle.seg_postings.specs.TermForms.{IsDictionaryOf}
use Rattle.seg_norms.specs.StoredNorms.{norms_of, HoldNorms}
use Rattle.seg_segment.specs.declared.segment_files.SegmentFiles.{SegmentFiles}
use Rattle.seg_open.specs.IndexedParts.{HaveIndexedParts}
use Rattle.seg_open.specs.OpenedFiles.{TermsAreOpen}

-- something holds of each field of a schema that is indexed
abbrev pub EachIndexed : Schema → (FieldEntry → ℕ → Type 0) → Type 0
EachIndexed schema Holds =
    (field : ℕ) (entry : FieldEntry) → slice_get schema field ≡ Some entry → is_indexed entry ≡ true → Holds entry field

-- the part of a field is a dictionary of its terms
pub record HasDictionary (entry : FieldEntry) (terms : List Part) (field : ℕ) : Type 0 where
  pub dictionary : List ℕ
  pub in_terms : field_of terms field ≡ Some dictionary
  pub is_dictionary : IsDictionaryOf entry.kind dictionary

-- there is a part for each indexed field and no other, and each is such a dictionary
pub record SoundTerms (schema : Schema) (terms : List ℕ) : Type 0 where
  pub parts : List Part
  pub file : HaveIndexedParts schema terms parts
  pub each : EachIndexed schema (λ entry field. HasDictionary entry parts field)

-- it is a store of this many documents, each pair of which has a field that is in the schema and stored
pub record SoundStore (schema : Schema) (documents : ℕ) (store : List ℕ) : Type 0 where
  pub blocks : List Block
  pub is : store_of store ≡ Some blocks
  pub stored_fields : have_stored_fields schema (documents_of blocks) ≡ true
  pub stored : length (documents_of blocks) ≡ documents

-- the part of a field are postings of the terms of its dictionary, each of which some positions complete
pub record HasPostings (entry : FieldEntry) (field documents : ℕ) (terms postings : List Part) : Type 0 where
  pub dictionary : List ℕ
  pub postings_part : List ℕ
  pub in_terms : field_of terms field ≡ Some dictionary
  pub in_postings : field_of postings field ≡ Some postings_part
  pub are : ArePostingsBy (rules_of entry documents) dictionary postings_part

-- there is a part for each indexed field and no other, and each are such postings
pub record SoundPostings (schema : Schema) (documents : ℕ) (terms postings : List ℕ) : Type 0 where
  pub term_parts : List Part
  pub posting_parts : List Part
  pub term_file : composite terms ≡ Some term_parts
  pub posting_file : HaveIndexedParts schema postings posting_parts
  pub each : EachIndexed schema (λ entry field. HasPostings entry field documents term_parts posting_parts)

-- the terms of all fields are open
pub record SoundPositions (schema : Schema) (documents : ℕ) (terms postings positions : List ℕ) : Type 0 where
  pub fields : List (Option OpenField)
  pub open_fields : TermsAreOpen schema documents terms postings positions fields

-- they are the length ids of this many documents in the fields of the schema
pub record SoundNorms (schema : Schema) (documents : ℕ) (field_norms : List ℕ) : Type 0 where
  pub parts : List Part
  pub file : composite field_norms ≡ Some parts
  pub fit : HoldNorms schema documents parts (norms_of schema parts)

-- the file of a component is sound, together with those that are read before it
abbrev pub IsSound : Schema → ℕ → SegmentFiles → SegmentComponent → Type 0
IsSound schema documents files Terms = SoundTerms schema files.terms
IsSound schema documents files Store = SoundStore schema documents files.store
IsSound schema documents files Postings = SoundPostings schema documents files.terms files.postings
IsSound schema documents files Positions = SoundPositions schema documents files.terms files.postings files.positions
IsSound schema documents files FastFields = HoldColumns schema documents files.fast_fields
IsSound schema documents files FieldNorms = SoundNorms schema documents files.field_norms
