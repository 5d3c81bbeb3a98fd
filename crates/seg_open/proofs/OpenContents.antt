-- The files of a segment that is open spell the contents that its readers have.
use Rattle.std.proofs.Common.{◌≡◌, ℕ, true, false, List, map, Option, Some, None, sym, ap, ◌∙◌, subst, slice_get}
use Rattle.std.specs.Prelude.{unwrap_or}
use Rattle.std.specs.FinMap.{get, empty, get-empty}
use Rattle.std.specs.List.{slice_index_or}
use Rattle.std.specs.Option.{option_and_then, option_map}
use Rattle.std.specs.Ordering.{nat_cmp}
use Rattle.std.specs.Cmp.Lexicographic.{slice_cmp}
use Rattle.std.proofs.lemmas.Bool.{false≢true}
use Rattle.std.proofs.lemmas.List.{length-map}
use Rattle.std.proofs.lemmas.Option.{slice_get-map, unwrap_or-slice_get}
use Rattle.seg_common.specs.LittleEndian.{u64_at}
use Rattle.seg_values.specs.declared.schema.FieldEntry.{FieldEntry}
use Rattle.seg_column_file.specs.ColumnFiles.{ColumnFile, column_file_of}
use Rattle.seg_column_format.specs.ModelColumns.{columns_in}
use Rattle.seg_column_format.specs.SchemaColumns.{SuitColumns}
use Rattle.seg_fastfield.specs.OpenFastFields.{FastFields}
use Rattle.seg_model.specs.Contents.{Contents}
use Rattle.seg_model.specs.Fields.{Schema, is_indexed}
use Rattle.seg_model.specs.DocumentTerms.{Terms, Posting}
use Rattle.seg_model.specs.Shape.{HasFullShape, IsTermWith}
use Rattle.seg_directory.specs.CompositeFiles.{Part, field_of}
use Rattle.seg_termdict.specs.Dictionary.{Term, terms_of}
use Rattle.seg_store.specs.Store.{documents_of}
use Rattle.seg_postings.specs.OpenedFields.{OpenField, written_terms}
use Rattle.seg_postings.specs.TermMaps.{TermsReadHaveShape}
use Rattle.seg_open.specs.OpenedFieldParts.{IsOpened}
use Rattle.seg_segment.specs.TermFiles.{HoldsField}
use Rattle.seg_open.specs.OpenSegment.{contents_in, terms_in}
use Rattle.seg_open.specs.OpenedFiles.{AreOpen, TermsAreOpen}
use Rattle.seg_open.specs.declared.core_readers.CoreReaders.{CoreReaders}
use Rattle.seg_open.specs.OpenedFields.{IsPlaceOpened}
use Rattle.seg_open.specs.OpeningSteps.{HaveInfos, HaveTotals}
use Rattle.seg_open.proofs.OpeningStages.{there}
use Rattle.seg_segment.specs.SpelledContents.{Spell}
use Rattle.seg_segment.specs.declared.segment_files.SegmentFiles.{SegmentFiles}

-- the terms of the field at a place
terms_at_place : (fields : List (Option OpenField)) (i : ℕ) (o : Option OpenField) → slice_get fields i ≡ Some o → slice_index_or (map terms_in fields) i empty ≡ terms_in o
terms_at_place fields i o at =
    sym (unwrap_or-slice_get (map terms_in fields) i empty) ∙ ap (λ x. unwrap_or x empty) (slice_get-map terms_in fields i ∙ ap (option_map terms_in) at)

-- the field at a place is open
record IsOpenAt (entry : FieldEntry) (field documents : ℕ) (terms postings positions : List Part) (fields : List (Option OpenField)) : Type 0 where
  opened : OpenField
  at : slice_get fields field ≡ Some (Some opened)
  is : IsOpened entry field documents terms postings positions opened

-- the total of each open field is told
pub open_totals : (schema : Schema) (documents : ℕ) (files : SegmentFiles) (fields : List (Option OpenField)) → TermsAreOpen schema documents files.terms files.postings files.positions fields → HaveTotals fields files.postings
open_totals schema documents files fields t field opened at =
    let p = there schema fields field (Some opened) (sym t.opened.per_field) at in
    let is : IsOpened p.value field documents t.term_parts t.posting_parts t.position_parts opened = (t.opened.each field p.value (Some opened) p.at at).1 in
    ap (λ (o : Option (List Part)). option_map (λ (part : List ℕ). u64_at part 0) (option_and_then (λ (parts : List Part). field_of parts field) o)) t.posting_file.file
    ∙ ap (option_map (λ (part : List ℕ). u64_at part 0)) is.in_postings
    ∙ ap (λ (n : ℕ). Some n) is.by.spells.counted

-- and its infos are those of its dictionary
pub open_infos : (schema : Schema) (documents : ℕ) (files : SegmentFiles) (fields : List (Option OpenField))
    → TermsAreOpen schema documents files.terms files.postings files.positions fields
    → HaveInfos fields files.terms
open_infos schema documents files fields t field opened at =
    let p = there schema fields field (Some opened) (sym t.opened.per_field) at in
    let is : IsOpened p.value field documents t.term_parts t.posting_parts t.position_parts opened =
    (t.opened.each field p.value (Some opened) p.at at).1 in
    ap (λ (o : Option (List Part)). option_map terms_of (option_and_then (λ (ps : List Part). field_of ps field) o))
    t.term_file.file
    ∙ ap (option_map terms_of) is.in_terms
    ∙ ap (λ (ts : List Term). Some ts) (sym is.infos)

module _ (law : TermsReadHaveShape) (schema : Schema) (documents : ℕ) (files : SegmentFiles) (readers : CoreReaders)
    (has : AreOpen schema documents files readers) where
  abbrev fields : List (Option OpenField)
  fields = readers.fields.items

  abbrev columns : ColumnFile
  columns = readers.fast_fields.file

  abbrev contents : Contents
  contents = contents_in schema documents fields readers.store readers.norms columns

  columns_is : columns ≡ column_file_of files.fast_fields
  columns_is = ap (λ (f : FastFields). f.file) has.columns_are

  t : TermsAreOpen schema documents files.terms files.postings files.positions fields
  t = has.terms

  indexed_at : (field : ℕ) (entry : FieldEntry) → slice_get schema field ≡ Some entry → is_indexed entry ≡ true → IsOpenAt entry field documents t.term_parts t.posting_parts t.position_parts fields
  indexed_at field entry at on =
      let p = there fields schema field entry t.opened.per_field at in
      by p.value p.at (t.opened.each field entry p.value at p.at)
    where
      by : (o : Option OpenField) → slice_get fields field ≡ Some o → IsPlaceOpened entry field documents t.term_parts t.posting_parts t.position_parts o → IsOpenAt entry field documents t.term_parts t.posting_parts t.position_parts fields
      by None found is = absurd (false≢true (sym is ∙ on))
      by (Some f) found is = record { opened = f; at = found; is = is.1 }

  unindexed_at : (field : ℕ) (entry : FieldEntry) → slice_get schema field ≡ Some entry → is_indexed entry ≡ false → slice_get fields field ≡ Some None
  unindexed_at field entry at off =
      let p = there fields schema field entry t.opened.per_field at in
      by p.value p.at (t.opened.each field entry p.value at p.at)
    where
      by : (o : Option OpenField) → slice_get fields field ≡ Some o → IsPlaceOpened entry field documents t.term_parts t.posting_parts t.position_parts o → slice_get fields field ≡ Some None
      by None found is = found
      by (Some f) found is = absurd (false≢true (sym off ∙ is.0))

  holds_field : (field : ℕ) (entry : FieldEntry) → slice_get schema field ≡ Some entry → is_indexed entry ≡ true → HoldsField entry field t.term_parts t.posting_parts t.position_parts (slice_index_or (map terms_in fields) field empty)
  holds_field field entry at on =
      let o = indexed_at field entry at on in
      let shape = law entry documents o.is.dictionary o.is.postings_part o.is.positions_part o.opened.total (written_terms o.opened) o.is.by in
      subst (HoldsField entry field t.term_parts t.posting_parts t.position_parts) (sym (terms_at_place fields field (Some o.opened) o.at)) (record {
        dictionary = o.is.dictionary;
        postings_part = o.is.postings_part;
        positions_part = o.is.positions_part;
        in_terms = o.is.in_terms;
        in_postings = o.is.in_postings;
        in_positions = o.is.in_positions;
        total = o.opened.total;
        written = written_terms o.opened;
        spells = o.is.by.spells;
        kinds = o.is.by.kinds;
        are = shape.are;
      })

  has_terms : (field : ℕ) (entry : FieldEntry) → slice_get schema field ≡ Some entry → is_indexed entry ≡ true → (term : List ℕ) (postings : List Posting) → get (slice_index_or (map terms_in fields) field empty) term ≡ Some postings → IsTermWith entry documents term postings
  has_terms field entry at on term postings found =
      let o = indexed_at field entry at on in
      let shape = law entry documents o.is.dictionary o.is.postings_part o.is.positions_part o.opened.total (written_terms o.opened) o.is.by in
      shape.shape term postings (ap (λ (m : Terms). get m term) (sym (terms_at_place fields field (Some o.opened) o.at)) ∙ found)

  has_none : (field : ℕ) (entry : FieldEntry) → slice_get schema field ≡ Some entry → is_indexed entry ≡ false → (term : List ℕ) → get (slice_index_or (map terms_in fields) field empty) term ≡ None
  has_none field entry at off term =
      ap (λ (m : Terms). get m term) (terms_at_place fields field None (unindexed_at field entry at off)) ∙ get-empty (slice_cmp nat_cmp) term

  suit : SuitColumns schema documents (columns_in columns)
  suit = subst (λ (f : ColumnFile). SuitColumns schema documents (columns_in f)) (sym columns_is) has.columns.suit

  -- the contents have full shape
  pub open_shape : HasFullShape schema contents
  open_shape = record {
    terms_per_field = length-map fields terms_in ∙ t.opened.per_field;
    terms = has_terms;
    no_terms = has_none;
    stored = has.store.2;
    norms_per_field = has.norms.1.are.per_field;
    norms = has.norms.1.are.norms_are;
    no_norms = has.norms.1.are.no_norms;
    declared = suit.declared;
    free = suit.free;
    rows = suit.rows;
    one_number_type = suit.one_number_type;
  }

  -- and the files spell them
  pub open_spells : Spell schema files contents
  open_spells = record {
    hold_terms = record {
      term_parts = t.term_parts;
      posting_parts = t.posting_parts;
      position_parts = t.position_parts;
      term_file = t.term_file.file;
      posting_file = t.posting_file.file;
      position_file = t.position_file.file;
      term_fields = t.term_file.fields;
      posting_fields = t.posting_file.fields;
      position_fields = t.position_file.fields;
      each = λ field entry at on. holds_field field entry at on;
    };
    norm_parts = has.norms.0 ∙ ap (λ (p : List Part). Some p) has.norms.1.parts_are;
    stored = ap (option_map documents_of) has.store.0;
    stored_fields = has.store.1;
    columns = record { file = has.columns.file; rows = has.columns.rows; are = ap columns_in (sym columns_is) };
    shape = open_shape;
  }
