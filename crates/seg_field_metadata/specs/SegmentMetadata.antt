-- What a segment that is open says about its fields.
use Rattle.std.specs.Prelude.{◌≡◌, ◌++◌, List, [], ◌∷◌, Option, Some, None}
use Rattle.seg_values.specs.declared.schema.FieldEntry.{FieldEntry}
use Rattle.seg_model.specs.Fields.{Schema}
use Rattle.seg_postings.specs.OpenedFields.{OpenField, dictionary_terms}
use Rattle.seg_open.specs.OpenSegment.{OpenSegment}
use Rattle.seg_values.specs.declared.error.TantivyError.{TantivyError}
use Rattle.seg_values.specs.declared.error.TantivyError.TheVariants.{OutOfMemory}
use Rattle.seg_field_metadata.specs.MetadataEntries.{Entry}
use Rattle.seg_field_metadata.specs.MergedMetadata.{MergeFails, merged}
use Rattle.seg_field_metadata.specs.ColumnMetadata.{ColumnsSay}
use Rattle.seg_field_metadata.specs.IndexedFieldMetadata.{FieldSays, Said}

-- what a field says that is open; one that isn't indexed says nothing
abbrev pub OpenedSays : FieldEntry → Option OpenField → Said → Type 0
OpenedSays entry None said = said ≡ record { entries = []; escaped = [] }
OpenedSays entry (Some f) said = FieldSays entry (dictionary_terms f) said

-- what the fields of a schema say, one after another
abbrev pub FieldsSay : Schema → List (Option OpenField) → Said → Type 0
FieldsSay [] opened said = said ≡ record { entries = []; escaped = [] }
FieldsSay (entry ∷ schema) [] said = ⊥
FieldsSay (entry ∷ schema) (o ∷ os) said =
    (first : Said) × (rest : Said) × OpenedSays entry o first × FieldsSay schema os rest
    × (said ≡ record { entries = first.entries ++ rest.entries; escaped = first.escaped ++ rest.escaped })

-- what its indexed fields and its columns say, before it is merged
pub record SegmentSays (s : OpenSegment) (entries : List Entry) : Type 0 where
  pub indexed : Said
  pub columns : List Entry
  pub fields_say : FieldsSay s.schema s.fields indexed
  pub columns_say : ColumnsSay s.schema indexed.escaped s.columns.columns columns
  pub all : entries ≡ indexed.entries ++ columns

-- a sum of sizes that it says passes 64 bits, or there is no memory
abbrev pub MetadataFails : OpenSegment → TantivyError → Type 0
MetadataFails s OutOfMemory = Unit {0}
MetadataFails s e = (entries : List Entry) × SegmentSays s entries × MergeFails (merged entries) e
