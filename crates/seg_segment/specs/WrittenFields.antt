-- The terms of the indexed fields, written field by field.
use Rattle.std.specs.Prelude.{◌≡◌, ℕ, List, map, Bool, true, false, Option, Some, None}
use Rattle.std.specs.List.{slice_get}
use Rattle.seg_common.specs.LittleEndian.{u64_at}
use Rattle.seg_values.specs.declared.schema.FieldEntry.{FieldEntry}
use Rattle.seg_model.specs.Fields.{Schema, is_indexed}
use Rattle.seg_directory.specs.CompositeFiles.{field_of}
use Rattle.seg_postings.specs.Field.{IsField}
use Rattle.seg_postings.specs.FieldFiles.{FieldFiles, AddsField}
use Rattle.seg_postings.specs.FieldSerializers.{TermWritten, FieldWriting}
use Rattle.seg_segment.specs.TermFiles.{indexed_fields}

-- a field with all of its terms, of which none is open
abbrev pub whole_field : ℕ → ℕ → List TermWritten → FieldWriting
whole_field field total terms = record { field = field; total = total; terms = terms; current = None }

-- `total` is the total of the tokens of a field, and `Has` tells which its terms are
module _ (total : ℕ → ℕ) (Has : ℕ → List TermWritten → Type 0) where
  -- all terms of a field are written, and none is open
  pub record IsWhole (field : ℕ) (writing : Option FieldWriting) : Type 0 where
    pub written : List TermWritten
    pub are : Has field written
    pub is : writing ≡ Some (whole_field field (total field) written)

  -- the terms of a field were added to files
  pub record AddsTerms (field : ℕ) (old new : Option FieldFiles) : Type 0 where
    pub written : List TermWritten
    pub are : Has field written
    pub adds : AddsField old new (whole_field field (total field) written)

  -- where the field is indexed; else none were added
  abbrev pub AddsIfIndexed : Bool → ℕ → Option FieldFiles → Option FieldFiles → Type 0
  AddsIfIndexed true field old new = AddsTerms field old new
  AddsIfIndexed false field old new = new ≡ old

  -- the parts of a field spell its terms
  pub record HasField (files : FieldFiles) (field : ℕ) : Type 0 where
    pub dictionary : List ℕ
    pub postings : List ℕ
    pub positions : List ℕ
    pub in_terms : field_of files.terms field ≡ Some dictionary
    pub in_postings : field_of files.postings field ≡ Some postings
    pub in_positions : field_of files.positions field ≡ Some positions
    pub written : List TermWritten
    pub are : Has field written
    pub spells : IsField dictionary postings positions (total field) written

  -- each file has one part for each indexed field, these spell its terms, and a part of postings begins with the total
  pub record HaveFields (schema : Schema) (files : FieldFiles) : Type 0 where
    pub term_fields : map (λ p. p.0) files.terms ≡ indexed_fields schema
    pub posting_fields : map (λ p. p.0) files.postings ≡ indexed_fields schema
    pub position_fields : map (λ p. p.0) files.positions ≡ indexed_fields schema
    pub each : (field : ℕ) (entry : FieldEntry) → slice_get schema field ≡ Some entry
        → is_indexed entry ≡ true → HasField files field
    pub totals : (field : ℕ) (part : List ℕ) → field_of files.postings field ≡ Some part → u64_at part 0 ≡ total field
