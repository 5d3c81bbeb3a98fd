-- What the fields of a reader say, one after another, is what its files say.
use Rattle.std.proofs.Common.{◌≡◌, ℕ, zero, suc, ◌+◌, Bool, true, false, List, [], ◌∷◌, map, drop, get_or, Option, Some, None, refl, sym, ap, subst, ◌∙◌, arith}
use Rattle.std.specs.Prelude.{is_some}
use Rattle.std.specs.List.{slice_get}
use Rattle.seg_values.specs.declared.schema.FieldEntry.{FieldEntry}
use Rattle.seg_meta.specs.Metas.{SegmentParts}
use Rattle.seg_model.specs.Fields.{Schema, is_indexed}
use Rattle.seg_postings.specs.OpenedFields.{OpenField, dictionary_terms}
use Rattle.seg_segment.specs.declared.segment_files.SegmentFiles.{SegmentFiles}
use Rattle.seg_open.specs.OpenSegment.{OpenSegment}
use Rattle.seg_open.specs.OpeningSteps.{HasFilesOf}
use Rattle.seg_field_metadata.specs.IndexedFieldMetadata.{FieldSays, Said}
use Rattle.seg_field_metadata.specs.SegmentMetadata.{FieldsSay, OpenedSays}
use Rattle.seg_field_metadata.specs.FileLengths.{AreShort, FieldSaysIn, FilesSay}
use Rattle.seg_field_metadata.proofs.ReaderParts.{says_its_parts}

module _ (files : SegmentFiles) where
  -- each of these fields that is indexed says what its parts say, where the first is the field of this number
  abbrev EachSays : ℕ → Schema → List (Option OpenField) → Type 0
  EachSays from schema fields =
      (i : ℕ) (entry : FieldEntry) (f : OpenField) (said : Said) → slice_get schema i ≡ Some entry → is_indexed entry ≡ true
      → slice_get fields i ≡ Some (Some f) → FieldSays entry (dictionary_terms f) said
      → FieldSaysIn true files (from + i) entry said.entries

  one_says : (field : ℕ) (entry : FieldEntry) (o : Option OpenField) (said : Said) → is_some o ≡ is_indexed entry
      → ((f : OpenField) → o ≡ Some f → is_indexed entry ≡ true → FieldSays entry (dictionary_terms f) said
      → FieldSaysIn true files field entry said.entries)
      → OpenedSays entry o said → FieldSaysIn (is_indexed entry) files field entry said.entries
  one_says field entry None said same each says =
      subst (λ (on : Bool). FieldSaysIn on files field entry said.entries) same (ap (λ (s : Said). s.entries) says)
  one_says field entry (Some f) said same each says =
      subst (λ (on : Bool). FieldSaysIn on files field entry said.entries) same (each f refl (sym same) says)

  all_say : (from : ℕ) (schema : Schema) (fields : List (Option OpenField)) (said : Said) → EachSays from schema fields
      → map is_some fields ≡ map is_indexed schema → FieldsSay schema fields said → FilesSay files from schema said.entries
  all_say from [] fields said each places says = ap (λ (s : Said). s.entries) says
  all_say from (entry ∷ schema) [] said each places says = absurd says
  all_say from (entry ∷ schema) (o ∷ os) said each places (first, rest, says, others, is) =
      let here : from + 0 ≡ from = omega arith in
      let next : (i : ℕ) → from + suc i ≡ from + 1 + i = λ i. omega arith in (
        first.entries,
        rest.entries,
        one_says from entry o first (ap (λ (bs : List Bool). get_or bs zero false) places)
            (λ f is_f on says_f.
            subst (λ (n : ℕ). FieldSaysIn true files n entry first.entries) here
            (each 0 entry f first refl on (ap (λ (x : Option OpenField). Some x) is_f) says_f))
            says,
        all_say (from + 1) schema os rest
            (λ i e f said_f at on opened says_f.
            subst (λ (n : ℕ). FieldSaysIn true files n e said_f.entries) (next i) (each (suc i) e f said_f at on opened says_f))
            (ap (λ (bs : List Bool). drop (suc zero) bs) places) others,
        ap (λ (s : Said). s.entries) is,
      )

pub readers_say_files : (segment : SegmentParts) (files : SegmentFiles) (s : OpenSegment) (said : Said) → HasFilesOf segment files s
    → AreShort files → map is_some s.fields ≡ map is_indexed s.schema → FieldsSay s.schema s.fields said
    → FilesSay files 0 s.schema said.entries
readers_say_files segment files s said has short places says =
    let first : (i : ℕ) → i ≡ 0 + i = λ i. omega arith in
    all_say files 0 s.schema s.fields said
    (λ i entry f said_f at on opened says_f.
    subst (λ (n : ℕ). FieldSaysIn true files n entry said_f.entries) (first i)
    (says_its_parts segment files s has short i entry f
    (ap (λ (schema : Schema). slice_get schema i) (sym has.of_schema) ∙ at) on opened said_f says_f))
    places says
