-- What is opened file by file, place by place.
use Rattle.std.proofs.Common.{◌≡◌, ℕ, zero, suc, arith, true, List, [], ◌∷◌, length, Option, Some, None, refl, sym, ap, ◌∙◌, subst}
use Rattle.std.specs.List.{slice_get}
use Rattle.std.proofs.lemmas.Bool.{false≢true}
use Rattle.std.proofs.lemmas.Option.{none-some}
use Rattle.seg_values.specs.declared.schema.FieldEntry.{FieldEntry}
use Rattle.seg_model.specs.Fields.{Schema, is_indexed}
use Rattle.seg_postings.specs.CompletedPostings.{ArePostingsBy}
use Rattle.seg_postings.specs.OpenedFields.{FieldRules, FirstPart, FirstParts, IsFieldBy, OpenField, rules_of, written_terms}
use Rattle.seg_open.specs.OpenedFields.{AreOpened, IsPlaceOpened}
use Rattle.seg_open.specs.OpenedTermFiles.{AddsPositions, AddsPostings, AllGoOn, GoesOn, IsFirst, IsFirstAt, PositionsOpened, PostingsOpened, TermsOpened}
use Rattle.seg_open.specs.OpenedFiles.{TermsAreOpen}
use Rattle.seg_open.specs.SoundFiles.{HasPostings, SoundPositions, SoundPostings, SoundTerms}

pub record IsThere {X : Type 0} (xs : List X) (i : ℕ) : Type 0 where
  pub value : X
  pub at : slice_get xs i ≡ Some value

-- a list as long as another has each of its places
pub there : {X Y : Type 0} (xs : List X) (ys : List Y) (i : ℕ) (y : Y) → length xs ≡ length ys → slice_get ys i ≡ Some y → IsThere xs i
there xs [] i y same at = absurd (none-some y at)
there [] (z ∷ ys) i y same at = absurd (omega (arith, same))
there (x ∷ xs) (z ∷ ys) zero y same at = record { value = x; at = refl }
there (x ∷ xs) (z ∷ ys) (suc i) y same at = let rest = there xs ys i y (omega (arith, same)) at in record { value = rest.value; at = rest.at }

-- ---- what a file adds

module _ {X Y : Type 0} (Adds : ℕ → X → Y → Type 0) (before : List (Option X)) (after : List (Option Y)) (all : AllGoOn Adds before after) (field : ℕ) where
  -- where there was a value there is one that goes with it
  record Next (x : X) : Type 0 where
    value : Y
    at : slice_get after field ≡ Some (Some value)
    adds : Adds field x value

  next : (x : X) → slice_get before field ≡ Some (Some x) → Next x
  next x at =
      let p = there after before field (Some x) all.per_field at in
      by p.value p.at (all.each field (Some x) p.value at p.at)
    where
      by : (o : Option Y) → slice_get after field ≡ Some o → GoesOn (Adds field) (Some x) o → Next x
      by None is goes = absurd goes
      by (Some y) is goes = record { value = y; at = is; adds = goes }

  -- where there is a value there was one
  record Last (y : Y) : Type 0 where
    value : X
    at : slice_get before field ≡ Some (Some value)
    adds : Adds field value y

  last : (y : Y) → slice_get after field ≡ Some (Some y) → Last y
  last y at =
      let p = there before after field (Some y) (sym all.per_field) at in
      by p.value p.at (all.each field p.value (Some y) p.at at)
    where
      by : (o : Option X) → slice_get before field ≡ Some o → GoesOn (Adds field) o (Some y) → Last y
      by None is goes = absurd goes
      by (Some x) is goes = record { value = x; at = is; adds = goes }

  -- where there is none there was none
  none_last : slice_get after field ≡ Some None → slice_get before field ≡ Some None
  none_last at =
      let p = there before after field None (sym all.per_field) at in
      by p.value p.at (all.each field p.value None p.at at)
    where
      by : (o : Option X) → slice_get before field ≡ Some o → GoesOn (Adds field) o None → slice_get before field ≡ Some None
      by None is goes = is
      by (Some x) is goes = absurd goes

-- ---- dictionaries

module _ (schema : Schema) (documents : ℕ) (terms : List ℕ) (dictionaries : List (Option FirstPart)) (first : TermsOpened schema documents terms dictionaries) where
  -- the entry of a field that has a dictionary
  pub record FirstThere (field : ℕ) (part : FirstPart) : Type 0 where
    pub entry : FieldEntry
    pub in_schema : slice_get schema field ≡ Some entry
    pub indexed : is_indexed entry ≡ true
    pub is : IsFirst entry field documents first.parts part

  pub first_there : (field : ℕ) (part : FirstPart) → slice_get dictionaries field ≡ Some (Some part) → FirstThere field part
  first_there field part at =
      let p = there schema dictionaries field (Some part) (sym first.are.per_field) at in
      let is : IsFirstAt p.value field documents first.parts (Some part) = first.are.each field p.value (Some part) p.at at in
      record { entry = p.value; in_schema = p.at; indexed = is.0; is = is.1 }

  -- the dictionary of a field that is indexed
  record FirstAt (entry : FieldEntry) (field : ℕ) : Type 0 where
    part : FirstPart
    at : slice_get dictionaries field ≡ Some (Some part)
    is : IsFirst entry field documents first.parts part

  first_at : (field : ℕ) (entry : FieldEntry) → slice_get schema field ≡ Some entry → is_indexed entry ≡ true → FirstAt entry field
  first_at field entry at on =
      let p = there dictionaries schema field entry first.are.per_field at in
      by p.value p.at (first.are.each field entry p.value at p.at)
    where
      by : (o : Option FirstPart) → slice_get dictionaries field ≡ Some o → IsFirstAt entry field documents first.parts o → FirstAt entry field
      by None found is = absurd (false≢true (sym is ∙ on))
      by (Some part) found is = record { part = part; at = found; is = is.1 }

  pub sound_terms : SoundTerms schema terms
  sound_terms = record {
    parts = first.parts;
    file = first.file;
    each = λ field entry at on. let f = first_at field entry at on in record { dictionary = f.part.dictionary; in_terms = f.is.in_terms; is_dictionary = f.is.is_dictionary };
  }

  -- ---- postings

  module _ (postings : List ℕ) (both : List (Option FirstParts)) (second : PostingsOpened schema postings dictionaries both) where
    has_postings : (field : ℕ) (entry : FieldEntry) → slice_get schema field ≡ Some entry → is_indexed entry ≡ true → HasPostings entry field documents first.parts second.parts
    has_postings field entry at on =
        let f = first_at field entry at on in
        let n = next (AddsPostings second.parts) dictionaries both second.all field f.part f.at in
        record {
          dictionary = f.part.dictionary;
          postings_part = n.value.postings;
          in_terms = f.is.in_terms;
          in_postings = n.adds.in_postings;
          are = subst (λ (rules : FieldRules). ArePostingsBy rules f.part.dictionary n.value.postings) f.is.rules n.adds.are;
        }

    pub sound_postings : SoundPostings schema documents terms postings
    sound_postings = record {
      term_parts = first.parts;
      posting_parts = second.parts;
      term_file = first.file.file;
      posting_file = second.file;
      each = has_postings;
    }

    -- what is open of a field with postings, from the first file on
    pub record BothThere (field : ℕ) (parts : FirstParts) : Type 0 where
      pub part : FirstPart
      pub at : slice_get dictionaries field ≡ Some (Some part)
      pub adds : AddsPostings second.parts field part parts

    pub both_there : (field : ℕ) (parts : FirstParts) → slice_get both field ≡ Some (Some parts) → BothThere field parts
    both_there field parts at =
        let l = last (AddsPostings second.parts) dictionaries both second.all field parts at in
        record { part = l.value; at = l.at; adds = l.adds }

    -- ---- positions

    module _ (positions : List ℕ) (fields : List (Option OpenField)) (third : PositionsOpened schema positions both fields) where
      is_open : (field : ℕ) (entry : FieldEntry) (opened : OpenField) → slice_get schema field ≡ Some entry → slice_get fields field ≡ Some (Some opened) → IsPlaceOpened entry field documents first.parts second.parts third.parts (Some opened)
      is_open field entry opened at found =
          let l = last (AddsPositions third.parts) both fields third.all field opened found in
          let b = both_there field l.value l.at in
          let is : IsFirstAt entry field documents first.parts (Some b.part) = first.are.each field entry (Some b.part) at b.at in
          let p = is.1 in
          let dictionary_is : l.value.dictionary ≡ b.part.dictionary = ap (λ (x : FirstParts). x.dictionary) b.adds.same in
          let rules_are : l.value.rules ≡ rules_of entry documents = ap (λ (x : FirstParts). x.rules) b.adds.same ∙ p.rules in (
            is.0,
            record {
              dictionary = l.value.dictionary;
              postings_part = l.value.postings;
              positions_part = l.adds.positions_part;
              in_terms = p.in_terms ∙ ap (λ (d : List ℕ). Some d) (sym dictionary_is);
              in_postings = b.adds.in_postings;
              in_positions = l.adds.in_positions;
              by = subst (λ (rules : FieldRules). IsFieldBy rules l.value.dictionary l.value.postings l.adds.positions_part opened.total (written_terms opened)) rules_are l.adds.by;
              infos = l.adds.infos;
            },
          )

      place : (field : ℕ) (entry : FieldEntry) (o : Option OpenField) → slice_get schema field ≡ Some entry → slice_get fields field ≡ Some o → IsPlaceOpened entry field documents first.parts second.parts third.parts o
      place field entry None at found =
          let second_none = none_last (AddsPositions third.parts) both fields third.all field found in
          let first_none = none_last (AddsPostings second.parts) dictionaries both second.all field second_none in
          first.are.each field entry None at first_none
      place field entry (Some opened) at found = is_open field entry opened at found

      pub are_opened : AreOpened schema documents first.parts second.parts third.parts fields
      are_opened = record { per_field = third.all.per_field ∙ second.all.per_field ∙ first.are.per_field; each = place }

      pub terms_are_open : TermsAreOpen schema documents terms postings positions fields
      terms_are_open = record {
        term_parts = first.parts;
        posting_parts = second.parts;
        position_parts = third.parts;
        term_file = first.file;
        posting_file = second.file;
        position_file = third.file;
        opened = are_opened;
      }

      pub sound_positions : SoundPositions schema documents terms postings positions
      sound_positions = record { fields = fields; open_fields = terms_are_open }
