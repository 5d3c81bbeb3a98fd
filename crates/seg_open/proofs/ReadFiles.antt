-- The six files of a segment, read and opened one after another.
use Rattle.std.proofs.Common.{◌≡◌, ℕ, List, [], ◌∷◌, ◌++◌, Option, Some, Result, Ok, Err, IsErrAnd, refl, sym, ap, subst}
use Rattle.seg_common.specs.declared.name.FileName.TheVariants.{Part}
use Rattle.seg_common.specs.declared.name.SegmentComponent.{SegmentComponent}
use Rattle.seg_common.specs.declared.name.SegmentComponent.TheVariants.{Terms, Store, Postings, Positions, FastFields, FieldNorms}
use Rattle.seg_values.specs.declared.error.TantivyError.{TantivyError}
use Rattle.seg_values.specs.declared.error.TantivyError.TheVariants.{DataCorruption}
use Rattle.seg_directory.proofs.Exports.{answers, broke, stops, then_does, went}
use Rattle.seg_directory.specs.Calls.{read}
use Rattle.seg_directory.specs.DirectoryStates.{DirectoryState}
use Rattle.seg_directory.specs.DirectorySteps.{Works, WorksFor, calls}
use Rattle.seg_model.specs.Fields.{Schema}
use Rattle.seg_column_format.specs.SchemaColumns.{HoldColumns}
use Rattle.seg_store.specs.Block.{Block}
use Rattle.seg_postings.specs.OpenedFields.{FirstPart, OpenField}
use Rattle.seg_segment.specs.declared.segment_files.SegmentFiles.{SegmentFiles}
use Rattle.seg_open.specs.Disagreement.{Disagree}
use Rattle.seg_open.specs.FileReads.{FirstRead, ReadsFiles, ReadsFirst}
use Rattle.seg_open.specs.OpenedFiles.{AreOpen, NormsUnopened, StoreOpened, StoreUnopened}
use Rattle.seg_open.specs.OpenedTermFiles.{IsTold, PositionsOpened, PositionsUnopened, PostingsUnopened, TermsOpened, TermsUnopened}
use Rattle.seg_open.specs.SoundFiles.{SoundPositions, SoundPostings, SoundStore, SoundTerms}
use Rattle.seg_open.specs.OpeningSteps.{Check, IsChecked, check_steps, damaged, error_of, sound, unfinished}
use Rattle.seg_open.specs.declared.core_readers.CoreReaders.{CoreReaders}
use Rattle.seg_open.specs.declared.core_readers.FirstReaders.{FirstReaders}
use Rattle.seg_open.specs.declared.open_error.OpenError.{OpenError}
use Rattle.seg_open.specs.declared.open_error.OpenError.TheVariants.{Damaged, OutOfMemory}
use Rattle.seg_open.proofs.IncompleteFiles.{columns_disagree, norms_disagree, positions_are, positions_disagree, postings_are, postings_disagree, store_disagrees, store_is, terms_are, terms_disagree}

-- ---- one file

-- a check that ends in no soundness, for a reason
abbrev pub IsStop : Type 0 → Check → Type 0
IsStop Reason sound = ⊥
IsStop Reason damaged = Reason
IsStop Reason unfinished = Unit {0}

-- a file isn't read, or isn't opened, for a reason
pub record Stops (id : ℕ) (component : SegmentComponent) (Reason : List ℕ → Type 0) (e : TantivyError)
    (before after : DirectoryState) : Type 0 where
  pub bytes : List ℕ
  pub check : Check
  pub works : Works {T = Unit {0}} (check_steps id component bytes check) (Err e) before after
  pub says : IsStop (Reason bytes) check

-- what its check then says
stopped : (Reason : Type 0) (schema : Schema) (documents : ℕ) (files : SegmentFiles) (component : SegmentComponent)
    → (Reason → Disagree schema documents files component) → (check : Check) → IsStop Reason check
    → IsChecked schema documents files component check
stopped Reason schema documents files component disagree sound says = absurd says
stopped Reason schema documents files component disagree damaged says = disagree says
stopped Reason schema documents files component disagree unfinished says = tt

module _ (id : ℕ) (component : SegmentComponent) (Reason : List ℕ → Type 0) (a b : DirectoryState) where
  -- it isn't read
  pub unread : (e : TantivyError) → WorksFor {T = List ℕ} (λ bytes. calls (read (Part id component) bytes) ∷ []) (Err e) a b
      → Stops id component Reason e a b
  unread e failed = record { bytes = failed.does.0; check = unfinished; works = stops _ failed.does.1; says = tt }

  module _ (bytes : List ℕ) (first : WorksFor (λ bytes. calls (read (Part id component) bytes) ∷ []) (Ok bytes) a b) where
    -- it is read, and isn't opened
    unopened_as : (e : OpenError) → IsTold component (Reason bytes) e → Stops id component Reason (error_of id e) a b
    unopened_as (Damaged c) told = record {
      bytes = bytes;
      check = damaged;
      works = then_does first.does (broke (ap (λ k. Some (DataCorruption (Part id k))) (sym told.0), refl));
      says = told.1;
    }
    unopened_as OutOfMemory told =
        record { bytes = bytes; check = unfinished; works = then_does first.does (broke (refl, refl)); says = tt }

    pub unopened : (e : OpenError) (told : TantivyError) → told ≡ error_of id e → IsTold component (Reason bytes) e
        → Stops id component Reason told a b
    unopened e told is why = subst (λ t. Stops id component Reason t a b) (sym is) (unopened_as e why)

-- it is read and found sound
pub sound_read : (id : ℕ) (component : SegmentComponent) (bytes : List ℕ) {a b : DirectoryState}
    → WorksFor (λ bytes. calls (read (Part id component) bytes) ∷ []) (Ok bytes) a b
    → Works {T = Unit {0}} (check_steps id component bytes sound) (Ok tt) a b
sound_read id component bytes first = then_does first.does (went (refl, refl))

-- ---- six files

-- how the check of each ends
abbrev pub six : Check → Check → Check → Check → Check → Check → SegmentComponent → Check
six terms store postings positions columns norms Terms = terms
six terms store postings positions columns norms Store = store
six terms store postings positions columns norms Postings = postings
six terms store postings positions columns norms Positions = positions
six terms store postings positions columns norms FastFields = columns
six terms store postings positions columns norms FieldNorms = norms

module _ (id : ℕ) (schema : Schema) (documents : ℕ) where
  -- the first isn't opened
  pub stops_at_terms : (e : TantivyError) (a b : DirectoryState) → Stops id Terms (TermsUnopened schema) e a b
      → ReadsFiles id schema documents (Err e) a b
  stops_at_terms e a b h =
      let files : SegmentFiles = record { terms = h.bytes; store = []; postings = []; positions = []; fast_fields = []; field_norms = [] } in
      let first = stopped (TermsUnopened schema h.bytes) schema documents files Terms (terms_disagree schema documents files) h.check h.says in
      record {
        files = files;
        checks = six h.check unfinished unfinished unfinished unfinished unfinished;
        checked = (first, (tt, (tt, (tt, (tt, (tt, tt))))));
        works = stops _ h.works;
        is = tt;
      }

  module _ (terms : List ℕ) (dictionaries : List (Option FirstPart)) (opened : TermsOpened schema documents terms dictionaries) where
    -- the second
    pub stops_at_store : (e : TantivyError) (a b c : DirectoryState)
        → Works {T = Unit {0}} (check_steps id Terms terms sound) (Ok tt) a b
        → Stops id Store (StoreUnopened schema documents) e b c → ReadsFiles id schema documents (Err e) a c
    stops_at_store e a b c before h =
        let files : SegmentFiles = record { terms = terms; store = h.bytes; postings = []; positions = []; fast_fields = []; field_norms = [] } in
        let second = stopped (StoreUnopened schema documents h.bytes) schema documents files Store (store_disagrees schema documents files) h.check h.says in
        record {
          files = files;
          checks = six sound h.check unfinished unfinished unfinished unfinished;
          checked = (terms_are schema documents files dictionaries opened, (second, (tt, (tt, (tt, (tt, tt))))));
          works = then_does before (stops _ h.works);
          is = tt;
        }

    -- the third
    pub stops_at_postings : (store : List ℕ) (blocks : List Block) → StoreOpened schema documents store blocks
        → (e : TantivyError) (a b c : DirectoryState)
        → Works {T = Unit {0}} (check_steps id Terms terms sound ++ check_steps id Store store sound) (Ok tt) a b
        → Stops id Postings (λ bytes. PostingsUnopened schema bytes dictionaries) e b c
        → ReadsFiles id schema documents (Err e) a c
    stops_at_postings store blocks stored e a b c before h =
        let files : SegmentFiles = record { terms = terms; store = store; postings = h.bytes; positions = []; fast_fields = []; field_norms = [] } in
        let first = terms_are schema documents files dictionaries opened in
        let second = store_is schema documents files dictionaries opened blocks stored in
        let third = stopped (PostingsUnopened schema h.bytes dictionaries) schema documents files Postings (postings_disagree schema documents files dictionaries opened) h.check h.says in
        record {
          files = files;
          checks = six sound sound h.check unfinished unfinished unfinished;
          checked = (first, (second, (third, (tt, (tt, (tt, tt))))));
          works = then_does before (stops _ h.works);
          is = tt;
        }

  -- three are open
  module _ (readers : FirstReaders) (a m : DirectoryState) (three : FirstRead id schema documents readers a m) where
    abbrev pub with_rest : List ℕ → List ℕ → List ℕ → SegmentFiles
    with_rest positions columns norms = record {
      terms = three.terms;
      store = three.store;
      postings = three.postings;
      positions = positions;
      fast_fields = columns;
      field_norms = norms;
    }

    first : SoundTerms schema three.terms
    first = terms_are schema documents (with_rest [] [] []) three.dictionaries three.terms_opened

    second : SoundStore schema documents three.store
    second = store_is schema documents (with_rest [] [] []) three.dictionaries three.terms_opened readers.store three.store_opened

    third : SoundPostings schema documents three.terms three.postings
    third =
        postings_are schema documents (with_rest [] [] []) three.dictionaries three.terms_opened readers.store three.store_opened
        readers.fields.items three.postings_opened

    -- the fourth isn't opened
    pub stops_at_positions : (e : TantivyError) (b : DirectoryState)
        → Stops id Positions (λ bytes. PositionsUnopened schema bytes readers.fields.items) e m b
        → ReadsFiles id schema documents (Err e) a b
    stops_at_positions e b h =
        let files = with_rest h.bytes [] [] in
        let disagree = positions_disagree schema documents files three.dictionaries three.terms_opened readers.fields.items three.postings_opened in
        let fourth = stopped (PositionsUnopened schema h.bytes readers.fields.items) schema documents files Positions disagree h.check h.says in
        record {
          files = files;
          checks = six sound sound sound h.check unfinished unfinished;
          checked = (first, (second, (third, (fourth, (tt, (tt, tt))))));
          works = then_does three.works (stops _ h.works);
          is = tt;
        }

    module _ (positions : List ℕ) (fields : List (Option OpenField)) (opened : PositionsOpened schema positions readers.fields.items fields) where
      fourth : SoundPositions schema documents three.terms three.postings positions
      fourth =
          positions_are schema documents (with_rest positions [] []) three.dictionaries three.terms_opened readers.store three.store_opened
          readers.fields.items three.postings_opened fields opened

      -- the fifth
      pub stops_at_columns : (e : TantivyError) (b c : DirectoryState)
          → Works {T = Unit {0}} (check_steps id Positions positions sound) (Ok tt) m b
          → Stops id FastFields (λ bytes. HoldColumns schema documents bytes → ⊥) e b c
          → ReadsFiles id schema documents (Err e) a c
      stops_at_columns e b c before h =
          let files = with_rest positions h.bytes [] in
          let fifth = stopped (HoldColumns schema documents h.bytes → ⊥) schema documents files FastFields (columns_disagree schema documents files) h.check h.says in
          record {
            files = files;
            checks = six sound sound sound sound h.check unfinished;
            checked = (first, (second, (third, (fourth, (fifth, (tt, tt))))));
            works = then_does three.works (then_does before (stops _ h.works));
            is = tt;
          }

      module _ (columns : List ℕ) (fifth : HoldColumns schema documents columns) (b c : DirectoryState)
          (before : Works {T = Unit {0}} (check_steps id Positions positions sound ++ check_steps id FastFields columns sound) (Ok tt) m b) where
        -- the sixth
        pub stops_at_norms : (e : TantivyError) → Stops id FieldNorms (NormsUnopened schema documents) e b c
            → ReadsFiles id schema documents (Err e) a c
        stops_at_norms e h =
            let files = with_rest positions columns h.bytes in
            let sixth = stopped (NormsUnopened schema documents h.bytes) schema documents files FieldNorms (norms_disagree schema documents files) h.check h.says in
            record {
              files = files;
              checks = six sound sound sound sound sound h.check;
              checked = (first, (second, (third, (fourth, (fifth, (sixth, tt))))));
              works = then_does three.works (then_does before (stops _ h.works));
              is = tt;
            }

        -- all are
        pub all_open : (norms : List ℕ) (r : CoreReaders) → Works {T = Unit {0}} (check_steps id FieldNorms norms sound) (Ok tt) b c
            → AreOpen schema documents (with_rest positions columns norms) r → ReadsFiles id schema documents (Ok r) a c
        all_open norms r last are = record {
          files = with_rest positions columns norms;
          checks = six sound sound sound sound sound sound;
          checked = (first, (second, (third, (fourth, (fifth, (record { parts = r.norms; file = are.norms.0; fit = are.norms.1 }, tt))))));
          works = then_does three.works (then_does before (answers last));
          is = are;
        }

-- the same at the exit of a `?`
pub stops_first : (id : ℕ) (schema : Schema) (documents : ℕ) (r : Result FirstReaders TantivyError) (e : TantivyError) (a b : DirectoryState)
    → IsErrAnd r (λ d. d ≡ e) → ReadsFiles id schema documents (Err e) a b → ReadsFirst id schema documents r a b
stops_first id schema documents (Ok x) e a b is h = absurd is
stops_first id schema documents (Err d) e a b is h = subst (λ x. ReadsFiles id schema documents (Err x) a b) (sym is) h

pub stops_rest : (id : ℕ) (schema : Schema) (documents : ℕ) (r : Result CoreReaders TantivyError) (e : TantivyError) (a b : DirectoryState)
    → IsErrAnd r (λ d. d ≡ e) → ReadsFiles id schema documents (Err e) a b → ReadsFiles id schema documents r a b
stops_rest id schema documents (Ok x) e a b is h = absurd is
stops_rest id schema documents (Err d) e a b is h = subst (λ x. ReadsFiles id schema documents (Err x) a b) (sym is) h
