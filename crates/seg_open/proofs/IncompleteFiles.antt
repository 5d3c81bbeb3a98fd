-- Files that can't be completed.
use Rattle.std.proofs.Common.{◌≡◌, ℕ, true, List, length, Option, Some, None, Result, Err, IfErr, IsErrAnd, sym, ap, ◌∙◌, subst, refl}
use Rattle.std.proofs.lemmas.Option.{same_Some}
use Rattle.std.proofs.lemmas.Result.{err_from_is_err_and}
use Rattle.std.specs.FinMap.{empty}
use Rattle.std.specs.List.{slice_get, slice_index_or}
use Rattle.std.specs.Option.{option_map}
use Rattle.seg_common.specs.declared.name.SegmentComponent.{SegmentComponent}
use Rattle.seg_common.specs.declared.name.SegmentComponent.TheVariants.{Terms, Store, Postings, Positions, FastFields, FieldNorms}
use Rattle.seg_values.specs.Tree.{Document}
use Rattle.seg_values.specs.declared.schema.FieldEntry.{FieldEntry}
use Rattle.seg_model.specs.Contents.{Contents}
use Rattle.seg_model.specs.Fields.{Schema, is_indexed}
use Rattle.seg_model.specs.Shape.{IsTermWith}
use Rattle.seg_directory.specs.CompositeFiles.{Part, composite, field_of}
use Rattle.seg_column_file.specs.ColumnFiles.{column_file_of}
use Rattle.seg_column_format.specs.ModelColumns.{columns_in}
use Rattle.seg_model.specs.Columns.{Columns}
use Rattle.seg_column_format.specs.SchemaColumns.{HoldColumns, SuitColumns}
use Rattle.seg_store.specs.Block.{Block}
use Rattle.seg_store.specs.Store.{store_of, documents_of}
use Rattle.seg_store.specs.StoredFields.{have_stored_fields}
use Rattle.seg_postings.specs.OpenedFields.{FieldRules, FirstPart, FirstParts, IsFieldBy, OpenField, rules_of}
use Rattle.seg_postings.specs.FieldSerializers.{TermWritten}
use Rattle.seg_postings.proofs.Exports.{dictionary_of_field}
use Rattle.seg_segment.specs.SpelledContents.{Spell}
use Rattle.seg_segment.specs.declared.segment_files.SegmentFiles.{SegmentFiles}
use Rattle.seg_open.specs.Disagreement.{Disagree, IsFirstWrong, IsWhyNotOpen}
use Rattle.seg_open.specs.OpenedFieldParts.{MayHold}
use Rattle.seg_open.specs.OpenedFiles.{NormsUnopened, StoreOpened, StoreUnopened}
use Rattle.seg_open.specs.OpenedTermFiles.{IsTold, PositionsOpened, PositionsUnopened, PostingsOpened, PostingsUnopened, TermsOpened, TermsUnopened}
use Rattle.seg_open.specs.SoundFiles.{SoundPositions, SoundPostings, SoundStore, SoundTerms}
use Rattle.seg_open.specs.declared.open_error.OpenError.{OpenError}
use Rattle.seg_open.specs.declared.open_error.OpenError.TheVariants.{Damaged, OutOfMemory}
use Rattle.seg_open.proofs.HeldFields.{by_rules}
use Rattle.seg_open.proofs.OpeningStages.{both_there, first_there, sound_positions, sound_postings, sound_terms}

record IsMapped (o : Option (List Block)) (ds : List Document) : Type 0 where
  blocks : List Block
  is : o ≡ Some blocks
  same : documents_of blocks ≡ ds

mapped : (o : Option (List Block)) (ds : List Document) → option_map documents_of o ≡ Some ds → IsMapped o ds
mapped None ds e = absurd (cc e)
mapped (Some bs) ds e = record { blocks = bs; is = refl; same = cc }

-- parts of a field in completed files, which are a field by the rules of its dictionary
record ByRules (postings positions : List Part) (field : ℕ) (part : FirstPart) : Type 0 where
  postings_part : List ℕ
  positions_part : List ℕ
  in_postings : field_of postings field ≡ Some postings_part
  in_positions : field_of positions field ≡ Some positions_part
  total : ℕ
  terms : List TermWritten
  by : IsFieldBy part.rules part.dictionary postings_part positions_part total terms

module _ (schema : Schema) (documents : ℕ) (files : SegmentFiles) where
  -- the store isn't one of this many documents in the stored fields of the schema
  pub store_disagrees : StoreUnopened schema documents files.store → Disagree schema documents files Store
  store_disagrees none completed contents same spell number =
      let m = mapped (store_of completed.store) contents.stored spell.stored in
      none m.blocks (ap store_of (sym same.1.0) ∙ m.is) (ap (have_stored_fields schema) m.same ∙ spell.stored_fields) (ap length m.same ∙ spell.shape.stored ∙ number)

  -- the columns aren't those of this many documents
  pub columns_disagree : (HoldColumns schema documents files.fast_fields → ⊥) → Disagree schema documents files FastFields
  columns_disagree other completed contents same spell number =
      let columns = columns_in (column_file_of completed.fast_fields) in
      let suit : SuitColumns schema contents.documents contents.columns = record {
        declared = spell.shape.declared;
        free = spell.shape.free;
        rows = spell.shape.rows;
        one_number_type = spell.shape.one_number_type;
      } in
      let held : HoldColumns schema documents completed.fast_fields = record {
        file = spell.columns.file;
        rows = spell.columns.rows ∙ number;
        suit =
            subst (λ (n : ℕ). SuitColumns schema n columns) number
            (subst (λ (cs : Columns). SuitColumns schema contents.documents cs) (sym spell.columns.are) suit);
      } in
      other (subst (λ (bytes : List ℕ). HoldColumns schema documents bytes) same.1.1.1.1.0 held)

  -- the length ids aren't those of this many documents in the fields of the schema
  pub norms_disagree : NormsUnopened schema documents files.field_norms → Disagree schema documents files FieldNorms
  norms_disagree none completed contents same spell number =
      none contents.norms
      (record {
        per_field = spell.shape.norms_per_field;
        norms_are = λ field entry at has. let n = spell.shape.norms field entry at has in (n.0 ∙ number, n.1);
        no_norms = spell.shape.no_norms;
      })
      (ap composite (sym same.1.1.1.1.1.0) ∙ spell.norm_parts)

  -- the terms of a field in completed files
  may_hold : (completed : SegmentFiles) (contents : Contents) (field : ℕ) (entry : FieldEntry) → slice_get schema field ≡ Some entry → is_indexed entry ≡ true → (spell : Spell schema completed contents) → contents.documents ≡ documents → MayHold entry field documents spell.hold_terms.term_parts spell.hold_terms.posting_parts spell.hold_terms.position_parts
  may_hold completed contents field entry at on spell number = record {
    held = slice_index_or contents.terms field empty;
    holds = spell.hold_terms.each field entry at on;
    shape = λ term ps found. subst (λ n. IsTermWith entry n term ps) number (spell.shape.terms field entry at on term ps found);
  }

  -- a field of a schema lacks its dictionary
  pub terms_disagree : TermsUnopened schema files.terms → Disagree schema documents files Terms
  terms_disagree unopened completed contents same spell number =
      let h = spell.hold_terms in
      let one = unopened h.term_parts (record { file = ap composite (sym same.0) ∙ h.term_file; fields = h.term_fields }) in
      let m = may_hold completed contents one.field one.entry one.in_schema one.indexed spell number in
      let by = by_rules one.entry one.field documents h.term_parts h.posting_parts h.position_parts m in
      one.lacks m.holds.dictionary m.holds.in_terms
      (dictionary_of_field (rules_of one.entry documents) m.holds.dictionary m.holds.postings_part m.holds.positions_part m.holds.total m.holds.written by)

  same_parts : (bytes other : List ℕ) (ps qs : List Part) → other ≡ bytes → composite bytes ≡ Some ps → composite other ≡ Some qs → qs ≡ ps
  same_parts bytes other ps qs same p q = same_Some qs ps (sym q ∙ ap composite same ∙ p)

  module _ (dictionaries : List (Option FirstPart)) (first : TermsOpened schema documents files.terms dictionaries) where
    -- in completed files a field has the dictionary that was opened, and is a field by its rules
    field_by : (completed : SegmentFiles) (contents : Contents) (field : ℕ) (part : FirstPart) → slice_get dictionaries field ≡ Some (Some part) → completed.terms ≡ files.terms → (spell : Spell schema completed contents) → contents.documents ≡ documents → ByRules spell.hold_terms.posting_parts spell.hold_terms.position_parts field part
    field_by completed contents field part at same spell number =
        let h = spell.hold_terms in
        let p = first_there schema documents files.terms dictionaries first field part at in
        let m = may_hold completed contents field p.entry p.in_schema p.indexed spell number in
        let by = by_rules p.entry field documents h.term_parts h.posting_parts h.position_parts m in
        let parts_are : h.term_parts ≡ first.parts = same_parts files.terms completed.terms first.parts h.term_parts same first.file.file h.term_file in
        let dictionary_is : m.holds.dictionary ≡ part.dictionary = same_Some m.holds.dictionary part.dictionary (sym m.holds.in_terms ∙ ap (λ (ps : List Part). field_of ps field) parts_are ∙ p.is.in_terms) in
        record {
          postings_part = m.holds.postings_part;
          positions_part = m.holds.positions_part;
          in_postings = m.holds.in_postings;
          in_positions = m.holds.in_positions;
          total = m.holds.total;
          terms = m.holds.written;
          by = subst (λ (rules : FieldRules). IsFieldBy rules part.dictionary m.holds.postings_part m.holds.positions_part m.holds.total m.holds.written) (sym p.is.rules)
              (subst (λ (d : List ℕ). IsFieldBy (rules_of p.entry documents) d m.holds.postings_part m.holds.positions_part m.holds.total m.holds.written) dictionary_is by);
        }

    -- the postings of a field are completed by no positions
    pub postings_disagree : PostingsUnopened schema files.postings dictionaries → Disagree schema documents files Postings
    postings_disagree unopened completed contents same spell number =
        let h = spell.hold_terms in
        let one = unopened h.posting_parts (record { file = ap composite (sym same.1.1.0) ∙ h.posting_file; fields = h.posting_fields }) in
        let f = field_by completed contents one.field one.value one.there same.0 spell number in
        one.lacks f.postings_part f.in_postings f.positions_part f.total f.terms f.by

    -- the positions of a field don't complete it
    pub positions_disagree : (both : List (Option FirstParts)) → PostingsOpened schema files.postings dictionaries both → PositionsUnopened schema files.positions both → Disagree schema documents files Positions
    positions_disagree both second unopened completed contents same spell number =
        let h = spell.hold_terms in
        let one = unopened h.position_parts (record { file = ap composite (sym same.1.1.1.0) ∙ h.position_file; fields = h.position_fields }) in
        let b = both_there schema documents files.terms dictionaries first files.postings both second one.field one.value one.there in
        let f = field_by completed contents one.field b.part b.at same.0 spell number in
        let parts_are : h.posting_parts ≡ second.parts = same_parts files.postings completed.postings second.parts h.posting_parts same.1.1.0 second.file.file h.posting_file in
        let postings_are : f.postings_part ≡ one.value.postings = same_Some f.postings_part one.value.postings (sym f.in_postings ∙ ap (λ (ps : List Part). field_of ps one.field) parts_are ∙ b.adds.in_postings) in
        one.lacks f.positions_part f.total f.terms f.in_positions
        (subst (λ (x : FirstParts). IsFieldBy x.rules x.dictionary x.postings f.positions_part f.total f.terms) (sym b.adds.same)
        (subst (λ (p : List ℕ). IsFieldBy b.part.rules b.part.dictionary p f.positions_part f.total f.terms) postings_are f.by))

  -- ---- the first that is wrong

  pub terms_wrong : TermsUnopened schema files.terms → IsFirstWrong schema documents files Terms
  terms_wrong unopened = record { disagree = terms_disagree unopened; first = tt }

  module _ (dictionaries : List (Option FirstPart)) (first : TermsOpened schema documents files.terms dictionaries) where
    pub terms_are : SoundTerms schema files.terms
    terms_are = sound_terms schema documents files.terms dictionaries first

    pub store_wrong : StoreUnopened schema documents files.store → IsFirstWrong schema documents files Store
    store_wrong none = record { disagree = store_disagrees none; first = (terms_are, tt) }

    module _ (blocks : List Block) (store : StoreOpened schema documents files.store blocks) where
      pub store_is : SoundStore schema documents files.store
      store_is = record { blocks = blocks; is = store.0; stored_fields = store.1; stored = store.2 }

      pub postings_wrong : PostingsUnopened schema files.postings dictionaries → IsFirstWrong schema documents files Postings
      postings_wrong unopened = record { disagree = postings_disagree dictionaries first unopened; first = (terms_are, (store_is, tt)) }

      module _ (both : List (Option FirstParts)) (second : PostingsOpened schema files.postings dictionaries both) where
        pub postings_are : SoundPostings schema documents files.terms files.postings
        postings_are = sound_postings schema documents files.terms dictionaries first files.postings both second

        pub positions_wrong : PositionsUnopened schema files.positions both → IsFirstWrong schema documents files Positions
        positions_wrong unopened = record { disagree = positions_disagree dictionaries first both second unopened; first = (terms_are, (store_is, (postings_are, tt))) }

        module _ (fields : List (Option OpenField)) (third : PositionsOpened schema files.positions both fields) where
          pub positions_are : SoundPositions schema documents files.terms files.postings files.positions
          positions_are = sound_positions schema documents files.terms dictionaries first files.postings both second files.positions fields third

          pub columns_wrong : (HoldColumns schema documents files.fast_fields → ⊥) → IsFirstWrong schema documents files FastFields
          columns_wrong other = record { disagree = columns_disagree other; first = (terms_are, (store_is, (postings_are, (positions_are, tt)))) }

          pub norms_wrong : HoldColumns schema documents files.fast_fields → NormsUnopened schema documents files.field_norms → IsFirstWrong schema documents files FieldNorms
          norms_wrong columns none = record { disagree = norms_disagree none; first = (terms_are, (store_is, (postings_are, (positions_are, (columns, tt))))) }

  -- what the opening of a file tells
  pub told : (component : SegmentComponent) (Reason : Type 0) → (Reason → IsFirstWrong schema documents files component) → (e : OpenError) → IsTold component Reason e → IsWhyNotOpen schema documents files e
  told component Reason wrong (Damaged c) tells = subst (λ d. IsFirstWrong schema documents files d) (sym tells.0) (wrong tells.1)
  told component Reason wrong OutOfMemory tells = tt

-- an answer with an error that tells why
pub why : {R : Type 0} (schema : Schema) (documents : ℕ) (files : SegmentFiles) (e : OpenError) (result : Result R OpenError) → IsErrAnd result (λ x. x ≡ e) → IsWhyNotOpen schema documents files e → IfErr result (IsWhyNotOpen schema documents files)
why schema documents files e result is tells =
    let err = err_from_is_err_and result is in
    subst (λ r. IfErr r (IsWhyNotOpen schema documents files)) (sym (err.1 ∙ ap (λ x. Err x) err.2)) tells
