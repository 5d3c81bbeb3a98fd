-- What the three files of terms of a segment hold, spelled in their formats.
use Rattle.std.specs.Prelude.{◌≡◌, ℕ, List, [], ◌∷◌, map, true, Some, if◌then◌else◌}
use Rattle.std.specs.FinMap.{entries, empty}
use Rattle.std.specs.List.{slice_get, slice_index_or, flat_map, AllByRecursion}
use Rattle.seg_values.specs.declared.schema.FieldEntry.{FieldEntry}
use Rattle.seg_model.specs.Fields.{Schema, is_indexed, fields}
use Rattle.seg_model.specs.DocumentTerms.{Terms, term_option}
use Rattle.seg_directory.specs.CompositeFiles as parts
use Rattle.seg_directory.specs.CompositeFiles.{composite, field_of}
use Rattle.seg_postings.specs.Field.{IsField}
use Rattle.seg_postings.specs.FieldSerializers.{TermWritten}
use Rattle.seg_postings.specs.RecordKinds.{kind_of}

-- the fields that are indexed
abbrev pub indexed_fields : Schema → List ℕ
indexed_fields schema = flat_map (λ f. if is_indexed f.1 then f.0 ∷ [] else []) (fields schema)

-- the parts of a field in three composite files spell its terms, each recorded as the field asks; any total will do
pub record HoldsField (entry : FieldEntry) (field : ℕ)
    (terms postings positions : List parts.Part) (held : Terms) : Type 0 where
  pub dictionary : List ℕ
  pub postings_part : List ℕ
  pub positions_part : List ℕ
  pub in_terms : field_of terms field ≡ Some dictionary
  pub in_postings : field_of postings field ≡ Some postings_part
  pub in_positions : field_of positions field ≡ Some positions_part
  pub total : ℕ
  pub written : List TermWritten
  pub spells : IsField dictionary postings_part positions_part total written
  pub kinds : AllByRecursion (λ t. t.kind ≡ kind_of (term_option entry t.bytes)) written
  pub are : map (λ t. (t.bytes, t.postings)) written ≡ entries held

-- three composite files, with one part for each indexed field, spell the terms of each
pub record HoldTerms (schema : Schema) (terms postings positions : List ℕ) (held : List Terms) : Type 0 where
  pub term_parts : List parts.Part
  pub posting_parts : List parts.Part
  pub position_parts : List parts.Part
  pub term_file : composite terms ≡ Some term_parts
  pub posting_file : composite postings ≡ Some posting_parts
  pub position_file : composite positions ≡ Some position_parts
  pub term_fields : map (λ p. p.0) term_parts ≡ indexed_fields schema
  pub posting_fields : map (λ p. p.0) posting_parts ≡ indexed_fields schema
  pub position_fields : map (λ p. p.0) position_parts ≡ indexed_fields schema
  pub each : (field : ℕ) (entry : FieldEntry) → slice_get schema field ≡ Some entry → is_indexed entry ≡ true
      → HoldsField entry field term_parts posting_parts position_parts (slice_index_or held field empty)
