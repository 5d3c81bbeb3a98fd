-- The parts that an indexed field is opened from, and how their lengths are made up of the sizes that the field says.
use Rattle.std.specs.Prelude.{◌≡◌, ℕ, ◌+◌, ◌<◌, ◌≤◌, ◌^◌, true, false, List, [], ◌∷◌, length, Option}
use Rattle.std.specs.List.{sum_by}
use Rattle.std.specs.Option.{unwrap_or}
use Rattle.seg_values.specs.FieldTypes.{type_of}
use Rattle.seg_values.specs.declared.schema.FieldEntry.{FieldEntry}
use Rattle.seg_model.specs.Fields.{is_json}
use Rattle.seg_termdict.specs.Dictionary.{terms_of}
use Rattle.seg_postings.specs.Field.{IsField}
use Rattle.seg_postings.specs.OpenedFields.{OpenField, dictionary_terms}
use Rattle.seg_postings.specs.FieldSerializers.{TermWritten}
use Rattle.seg_field_metadata.specs.MetadataEntries.{Entry, Known}
use Rattle.seg_field_metadata.specs.IndexedFieldMetadata.{FieldSays, Said, Sizes, indexed_entry, sizes_of}

-- the three parts of a field, as bytes
pub record FieldBytes : Type 0 where
  pub dictionary : List ℕ
  pub postings : List ℕ
  pub positions : List ℕ

-- how long they are
abbrev pub lengths_of : FieldBytes → Sizes
lengths_of b = record { terms = length b.dictionary; postings = length b.postings; positions = length b.positions }

-- a field is opened from parts of fewer than 2^64 bytes: they spell terms, and the dictionary has the field's infos
pub record IsOpenedFrom (b : FieldBytes) (f : OpenField) : Type 0 where
  pub total : ℕ
  pub terms : List TermWritten
  pub spell : IsField b.dictionary b.postings b.positions total terms
  pub infos : dictionary_terms f ≡ terms_of b.dictionary
  pub few_terms : length b.dictionary < 2 ^ 64
  pub few_postings : length b.postings < 2 ^ 64
  pub few_positions : length b.positions < 2 ^ 64

-- ---- what follows for each field

-- the sizes that are summed over its terms are the lengths of its parts
abbrev pub SizesAreLengths : Type 0
SizesAreLengths = (f : OpenField) (b : FieldBytes) → IsOpenedFrom b f → sizes_of (dictionary_terms f) ≡ lengths_of b

-- without paths it says these
abbrev pub FieldsSayLengths : Type 0
FieldsSayLengths =
    (entry : FieldEntry) (f : OpenField) (b : FieldBytes) (said : Said) → IsOpenedFrom b f → is_json entry.kind ≡ false
    → FieldSays entry (dictionary_terms f) said
    → said.entries ≡ indexed_entry entry entry.name (type_of entry.kind) (lengths_of b) ∷ []

-- the sum of a size over the entries that have it
abbrev pub sum_of : (Known → Option ℕ) → List Entry → ℕ
sum_of size es = sum_by (λ e. unwrap_or (size e.1) 0) es

-- entries have all positions, all postings after the token total, and the dictionary but for less than a byte an entry
pub record MakeUp (b : FieldBytes) (es : List Entry) : Type 0 where
  pub postings : 8 + sum_of (λ k. k.postings) es ≡ length b.postings
  pub positions : sum_of (λ k. k.positions) es ≡ length b.positions
  pub terms_most : sum_of (λ k. k.terms) es ≤ length b.dictionary
  pub terms_least : 0 < length es → length b.dictionary < sum_of (λ k. k.terms) es + length es

-- so have the paths and types of a JSON field
abbrev pub PathsMakeUpLengths : Type 0
PathsMakeUpLengths =
    (entry : FieldEntry) (f : OpenField) (b : FieldBytes) (said : Said) → IsOpenedFrom b f → is_json entry.kind ≡ true
    → FieldSays entry (dictionary_terms f) said → MakeUp b said.entries
