-- What the files of a segment say about its fields: how long their parts are.
use Rattle.std.specs.Prelude.{◌≡◌, ℕ, ◌+◌, ◌<◌, ◌^◌, Bool, true, false, List, [], ◌∷◌, ◌++◌, length, map, Some, is_some, string_bytes}
use Rattle.seg_values.specs.FieldTypes.{type_of}
use Rattle.seg_values.specs.declared.schema.FieldEntry.{FieldEntry}
use Rattle.seg_meta.specs.Metas.{SegmentParts}
use Rattle.seg_model.specs.Fields.{Schema, is_indexed, is_json}
use Rattle.seg_termdict.specs.Dictionary.{terms_of}
use Rattle.seg_postings.specs.JsonSpaces.{AreSpaces}
use Rattle.seg_postings.specs.declared.field_space.InvertedIndexFieldSpace.{InvertedIndexFieldSpace}
use Rattle.seg_segment.specs.declared.segment_files.SegmentFiles.{SegmentFiles}
use Rattle.seg_open.specs.FieldParts.{part_in}
use Rattle.seg_open.specs.OpenSegment.{OpenSegment}
use Rattle.seg_open.specs.OpeningSteps.{HasFilesOf}
use Rattle.seg_field_metadata.specs.MetadataEntries.{Entry}
use Rattle.seg_field_metadata.specs.IndexedFieldMetadata.{Said, indexed_entry, share}
use Rattle.seg_field_metadata.specs.ListedNames.{listed_name}
use Rattle.seg_field_metadata.specs.SegmentMetadata.{FieldsSay}
use Rattle.seg_field_metadata.specs.PartLengths.{FieldBytes, lengths_of}

-- the files of terms, of postings and of positions have fewer than 2^64 bytes each
pub record AreShort (files : SegmentFiles) : Type 0 where
  pub terms : length files.terms < 2 ^ 64
  pub postings : length files.postings < 2 ^ 64
  pub positions : length files.positions < 2 ^ 64

-- the parts that a field has in them
pub record ArePartsOf (files : SegmentFiles) (field : ℕ) (b : FieldBytes) : Type 0 where
  pub in_terms : part_in files.terms field ≡ Some b.dictionary
  pub in_postings : part_in files.postings field ≡ Some b.postings
  pub in_positions : part_in files.positions field ≡ Some b.positions

-- a path and a type have their share of a dictionary of this many bytes and terms, and the ranges of their terms
abbrev pub path_entry : FieldEntry → ℕ → ℕ → InvertedIndexFieldSpace → Entry
path_entry entry size all space =
    indexed_entry entry (listed_name entry (string_bytes space.field_name)) space.field_type (record {
      terms = share size space.num_terms all;
      postings = space.postings_size.0;
      positions = space.positions_size.0;
    })

-- what the parts of a field say: those of a JSON field something of each path and type, all others how long they are
abbrev pub PartsSayBy : Bool → FieldEntry → FieldBytes → List Entry → Type 0
PartsSayBy true entry b es =
    (spaces : List InvertedIndexFieldSpace) × AreSpaces (terms_of b.dictionary) spaces
    × (es ≡ map (path_entry entry (length b.dictionary) (length (terms_of b.dictionary))) spaces)
PartsSayBy false entry b es = es ≡ indexed_entry entry entry.name (type_of entry.kind) (lengths_of b) ∷ []

abbrev pub PartsSay : FieldEntry → FieldBytes → List Entry → Type 0
PartsSay entry b es = PartsSayBy (is_json entry.kind) entry b es

-- what the files say about a field: what its parts say, where it is indexed, and nothing elsewhere
abbrev pub FieldSaysIn : Bool → SegmentFiles → ℕ → FieldEntry → List Entry → Type 0
FieldSaysIn true files field entry es = (b : FieldBytes) × ArePartsOf files field b × PartsSay entry b es
FieldSaysIn false files field entry es = es ≡ []

-- what they say about the fields of a schema, one after another from a field on
abbrev pub FilesSay : SegmentFiles → ℕ → Schema → List Entry → Type 0
FilesSay files field [] es = es ≡ []
FilesSay files field (entry ∷ schema) es =
    (first : List Entry) × (rest : List Entry) × FieldSaysIn (is_indexed entry) files field entry first
    × FilesSay files (field + 1) schema rest × (es ≡ first ++ rest)

-- what the indexed fields of a reader say is what its files say
abbrev pub ReadersSayFiles : Type 0
ReadersSayFiles =
    (segment : SegmentParts) (files : SegmentFiles) (s : OpenSegment) (said : Said)
    → HasFilesOf segment files s → AreShort files
    → map is_some s.fields ≡ map is_indexed s.schema → FieldsSay s.schema s.fields said
    → FilesSay files 0 s.schema said.entries
