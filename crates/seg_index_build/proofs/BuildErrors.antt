-- What is known of the error with which the writing of both indexes ends.
use Rattle.std.proofs.Common.{◌≡◌, ◌≢◌, ◌≤◌, ◌<◌, ◌^◌, ◌∙◌, ℕ, true, List, IsTrue, map, length, None, Some, Err, refl, sym, ap, subst, inl, inr, arith}
use Rattle.std.specs.FinMap.{len}
use Rattle.seg_common.specs.FaultCounts.{Rose}
use Rattle.seg_values.specs.declared.error.ArgumentCause.TheVariants.{Documents, Numbers}
use Rattle.seg_values.specs.declared.error.TantivyError.{TantivyError}
use Rattle.seg_values.specs.declared.error.TantivyError.TheVariants.{SchemaError, InvalidArgument, IndexAlreadyExists, OpenReadError, OpenWriteError, IoError, DataCorruption, SystemError, FieldNotFound, OutOfMemory}
use Rattle.seg_directory.proofs.Exports.{all_went, never_there}
use Rattle.seg_directory.specs.Files.{NamedFiles}
use Rattle.seg_directory.specs.DirectoryStates.{DirectoryState}
use Rattle.seg_model.specs.Fields.{Schema, Analyzer}
use Rattle.seg_model.specs.Input.{Input, input_batches}
use Rattle.seg_model.specs.Laws.{AreReadingsOf, JoiningIsInvisible}
use Rattle.seg_model.specs.ValidInputs.{Known, input_refusal, settings_fit}
use Rattle.seg_segment.specs.Laws.{HoldsOneContents}
use Rattle.seg_segment.specs.ReadErrors.{IsReadError}
use Rattle.seg_open.specs.OpenSegment.{OpenSegment, kept_count, part_of}
use Rattle.seg_open.specs.OpeningSteps.{IsNoDamage, OpensSegments}
use Rattle.seg_open.proofs.Exports.{segments_rose, segments_so}
use Rattle.seg_batches.proofs.Exports.{refusal_weaker}
use Rattle.seg_check.specs.AdmittedInputs.{Fits}
use Rattle.seg_model.specs.Refusals.{IfRefusal, IsRefusal, batches_error, build_refusal}
use Rattle.seg_segment.proofs.Exports.{rose_before, failing}
use Rattle.seg_index_build.specs.BuildOutcomes.{AreEmpty, CanBeBuilt, IsBuildError, IsWhyUntold, RoseIn}
use Rattle.seg_index_build.specs.DirectoryCalls.{merge_of}
use Rattle.seg_index_build.specs.IndexFiles.{work_ids}
use Rattle.seg_index_build.specs.MergedSegments.{AreMerged, MergeInput, first_schema, joined, live_asked}
use Rattle.seg_index_build.specs.TwoDirectories.{Directories}
use Rattle.seg_index_build.proofs.WritingExits.{Exits, Filled, in_listing, in_output_listing, in_beginning, in_filling, in_merging}
use Rattle.seg_index_build.proofs.FilledIndex.{filled_counts, filled_fresh, filled_refused, filled_so}
use Rattle.seg_index_build.proofs.ToldDirectories.{tells-still}
use Rattle.seg_index_build.proofs.MergeErrors.{argument_refuses, filling_so, merge_fresh, merge_refused, merge_undamaged, too_many_told}
use Rattle.seg_index_build.proofs.MergeContents.{opened_held}
use Rattle.seg_index_build.proofs.MergeTurns.{MergeExits, Opened, at_beginning, at_counting, at_filling, at_opening}
use Rattle.seg_index_build.proofs.WritingPlaces.{are_readings, begun_absent, begun_later, begun_tells, distinct, is_written, many, output_told, told_filled, work_whole}
use Rattle.seg_index_build.proofs.JoinedSurvivors.{kept_survivors, survivors_joined}
use Rattle.seg_index_build.proofs.WorkReadings.{live_batches}
use Rattle.seg_index_build.proofs.BuildRefusals.{by_batches, by_numbers, by_survivors, refusal_undamaged}
use Rattle.seg_index_build.proofs.FilledWorkIndex.{are_merged, work_schema}
use Rattle.seg_index_build.proofs.WriteErrors.{IsWriteError, calls_so, so_before, write_unrefused, write_undamaged}

-- ---- kinds of errors

-- an error of writing: a fault that was counted is one of the two directories
of_writing : (e : TantivyError) (m n : ℕ) (a b : Directories) → (Rose m n → RoseIn a b) → IsWriteError e m n → IsBuildError e a b
of_writing OpenReadError m n a b rose so = rose so
of_writing OpenWriteError m n a b rose so = rose so
of_writing IoError m n a b rose so = rose so
of_writing SystemError m n a b rose so = so
of_writing FieldNotFound m n a b rose so = so
of_writing (SchemaError cause) m n a b rose so = tt
of_writing (InvalidArgument cause) m n a b rose so = tt
of_writing IndexAlreadyExists m n a b rose so = tt
of_writing (DataCorruption name) m n a b rose so = tt
of_writing OutOfMemory m n a b rose so = tt

of_work : (e : TantivyError) (a b : Directories) → IsWriteError e a.work.faults b.work.faults → IsBuildError e a b
of_work e a b so = of_writing e a.work.faults b.work.faults a b (λ rose. inl rose) so

of_output : (e : TantivyError) (a b : Directories) → IsWriteError e a.output.faults b.output.faults → IsBuildError e a b
of_output e a b so = of_writing e a.output.faults b.output.faults a b (λ rose. inr rose) so

pub of_refusal : (e : TantivyError) (a b : Directories) → IsRefusal e → IsBuildError e a b
of_refusal OpenReadError a b refusal = absurd refusal
of_refusal OpenWriteError a b refusal = absurd refusal
of_refusal IoError a b refusal = absurd refusal
of_refusal SystemError a b refusal = refusal
of_refusal FieldNotFound a b refusal = refusal
of_refusal (SchemaError cause) a b refusal = tt
of_refusal (InvalidArgument cause) a b refusal = tt
of_refusal IndexAlreadyExists a b refusal = tt
of_refusal (DataCorruption name) a b refusal = tt
of_refusal OutOfMemory a b refusal = tt

of_reading : (e : TantivyError) (a b : Directories) → IsReadError e
    → (e ≡ OpenReadError → Rose a.work.faults b.work.faults) → IsBuildError e a b
of_reading OpenReadError a b so rose = inl (rose refl)
of_reading OpenWriteError a b so rose = absurd so
of_reading IoError a b so rose = absurd so
of_reading SystemError a b so rose = so
of_reading FieldNotFound a b so rose = so
of_reading (SchemaError cause) a b so rose = tt
of_reading (InvalidArgument cause) a b so rose = tt
of_reading IndexAlreadyExists a b so rose = tt
of_reading (DataCorruption name) a b so rose = tt
of_reading OutOfMemory a b so rose = tt

pub of_memory : (e : TantivyError) (a b : Directories) → e ≡ OutOfMemory → IsBuildError e a b
of_memory e a b is = subst (λ (x : TantivyError). IsBuildError x a b) (sym is) tt

-- of an input that can be built it is out of memory alone
pub complete_of : (known : Known) (analyzer : Analyzer) (input : Input) (e : TantivyError) (a b : Directories)
    → IsBuildError e a b → IfRefusal (λ x. build_refusal known analyzer input ≡ Some x) e → e ≢ IndexAlreadyExists
    → IsNoDamage e → CanBeBuilt known analyzer input a b → e ≡ OutOfMemory
complete_of known analyzer input (SchemaError cause) a b so refused fresh whole can = absurd (cc (sym can.unrefused ∙ refused))
complete_of known analyzer input (InvalidArgument cause) a b so refused fresh whole can =
    absurd (cc (sym can.unrefused ∙ refused))
complete_of known analyzer input IndexAlreadyExists a b so refused fresh whole can = absurd (fresh refl)
complete_of known analyzer input OpenReadError a b so refused fresh whole can = absurd (can.sound so)
complete_of known analyzer input OpenWriteError a b so refused fresh whole can = absurd (can.sound so)
complete_of known analyzer input IoError a b so refused fresh whole can = absurd (can.sound so)
complete_of known analyzer input (DataCorruption name) a b so refused fresh whole can = absurd whole
complete_of known analyzer input SystemError a b so refused fresh whole can = absurd so
complete_of known analyzer input FieldNotFound a b so refused fresh whole can = absurd so
complete_of known analyzer input OutOfMemory a b so refused fresh whole can = refl

module _ (m : MergeInput) (e : TantivyError) (a n b : Directories) (later : a.work.faults ≤ n.work.faults)
    (output_later : a.output.faults ≤ n.output.faults) where
  began_later : (opened : List OpenSegment) (o : DirectoryState) → Opened m opened n b.work o
      → a.output.faults ≤ o.faults
  began_later opened o was = omega (arith, output_later, (all_went was.begins).later)

  -- of each exit of the merge
  error_of_merge : MergeExits m e n b → IsBuildError e a b
  error_of_merge (at_beginning h stays) =
      of_output e a b
      (so_before e a.output.faults n.output.faults b.output.faults output_later
      (calls_so {T = Unit {0}} e (tt, (tt, (tt, tt))) h))
  error_of_merge (at_opening begins h) =
      of_reading e a b (segments_so (live_asked m.segments m.filters) n.work b.work e h)
      (λ is. rose_before a.work.faults n.work.faults b.work.faults later
      (segments_rose (live_asked m.segments m.filters) n.work b.work
      (subst (λ (x : TantivyError). OpensSegments (live_asked m.segments m.filters) (Err x) n.work b.work) is h)))
  error_of_merge (at_counting opened was (inl is)) =
      of_refusal e a b (argument_refuses Documents e (too_many_told (kept_count opened) e is).1)
  error_of_merge (at_counting opened was (inr is)) = of_memory e a b is
  error_of_merge (at_filling opened o was few h) = elim (filling_so {T = Unit {0}} m opened e o b.output h) [
    | inl mixed ↦ of_refusal e a b (argument_refuses Numbers e mixed.0)
    | inr so ↦ of_output e a b (so_before e a.output.faults o.faults b.output.faults (began_later opened o was) so)
  ]

module _ (analyzer : Analyzer) (input : Input) where
  -- of each exit
  pub error_of_exit : (e : TantivyError) (a b : Directories) → Exits analyzer input e a b → IsBuildError e a b
  error_of_exit e a b (in_listing h) = of_work e a b (calls_so {T = Unit {0}} e (tt, tt) h)
  error_of_exit e a b (in_output_listing h) = of_output e a b (calls_so {T = Unit {0}} e (tt, tt) h)
  error_of_exit e a b (in_beginning w lists h) =
      of_work e a b
      (so_before e a.work.faults w.faults b.work.faults (all_went lists).later
      (calls_so {T = Unit {0}} e (tt, (tt, (tt, tt))) h))
  error_of_exit e a b (in_filling w o begun h) = elim (filled_so input.settings input.schema analyzer (work_ids input.ids) input.cuts input.operations e w b.work h) [
    | inl so ↦ of_work e a b (so_before e a.work.faults w.faults b.work.faults (begun_later analyzer input a w o begun) so)
    | inr refusal ↦ of_refusal e a b refusal
  ]
  error_of_exit e a b (in_merging n filled h) =
      error_of_merge (merge_of analyzer input) e a n b (later_of filled) (all_went filled.begun.lists_output).later h
    where
      later_of : Filled analyzer input a n.work n.output → a.work.faults ≤ n.work.faults
      later_of f =
          omega (
            arith,
            begun_later analyzer input a f.begun_at n.output f.begun,
            filled_counts input.settings input.schema analyzer (work_ids input.ids) input.cuts input.operations tt f.begun_at n.work f.fills,
          )

  module _ (fits : Fits analyzer input) (settings : settings_fit input.settings ≡ true) where
    abbrev merged : AreMerged (merge_of analyzer input)
    merged = are_merged analyzer input fits settings

    -- ---- never a file that is there, over empty directories

    exit_fresh : (e : TantivyError) (a b : Directories) → AreEmpty a → Exits analyzer input e a b
        → e ≡ IndexAlreadyExists → ⊥
    exit_fresh e a b empty (in_listing h) is =
        never_there empty.work_tells (sym empty.work, tt) h (ap (failing (Unit {0})) is)
    exit_fresh e a b empty (in_output_listing h) is =
        never_there empty.output_tells (sym empty.output, tt) h (ap (failing (Unit {0})) is)
    exit_fresh e a b empty (in_beginning w lists h) is =
        let went = all_went lists in
        never_there (tells-still _ _ went.tells empty.work_tells)
        (sym (ap (λ (files : NamedFiles). len files) (went.files empty.work_tells) ∙ empty.work), (tt, (tt, tt))) h
        (ap (failing (Unit {0})) is)
    exit_fresh e a b empty (in_filling w o begun h) is =
        filled_fresh input.settings input.schema analyzer (work_ids input.ids) input.cuts input.operations
        (many analyzer input fits) (distinct analyzer input fits) (failing (Unit {0}) e) w b.work h
        (tells-still _ _ (begun_tells analyzer input a w o begun) empty.work_tells)
        (begun_absent analyzer input a w o begun empty.work) (ap (failing (Unit {0})) is)
    exit_fresh e a b empty (in_merging n filled h) is =
        let went = all_went filled.begun.lists_output in
        merge_fresh (merge_of analyzer input) merged e n b
        (output_told analyzer input fits a n.work n.output filled empty.output_tells)
        (ap (λ (files : NamedFiles). len files) (went.files empty.output_tells) ∙ empty.output) h is

    -- ---- no damage, where the work directory tells

    exit_undamaged : (e : TantivyError) (a b : Directories) → IsTrue a.work.tells → Exits analyzer input e a b
        → IsNoDamage e
    exit_undamaged e a b told (in_listing h) = write_undamaged e _ _ (calls_so {T = Unit {0}} e (tt, tt) h)
    exit_undamaged e a b told (in_output_listing h) = write_undamaged e _ _ (calls_so {T = Unit {0}} e (tt, tt) h)
    exit_undamaged e a b told (in_beginning w lists h) =
        write_undamaged e _ _ (calls_so {T = Unit {0}} e (tt, (tt, (tt, tt))) h)
    exit_undamaged e a b told (in_filling w o begun h) = elim (filled_so input.settings input.schema analyzer (work_ids input.ids) input.cuts input.operations e w b.work h) [
      | inl so ↦ write_undamaged e w.faults b.work.faults so
      | inr refusal ↦ refusal_undamaged e refusal
    ]
    exit_undamaged e a b told (in_merging n filled h) =
        merge_undamaged (merge_of analyzer input) merged e n b
        (told_filled analyzer input fits a n.work n.output filled told)
        (work_whole analyzer input fits a n.work n.output filled told) h

    -- ---- refusals

    module _ (P : TantivyError → Type 0)
        (in_batch : (e : TantivyError) → batches_error input.schema analyzer 0 input.cuts input.operations ≡ Some e → P e) where
      exit_refused : (e : TantivyError) (a b : Directories) → Exits analyzer input e a b
          → ((n : Directories) (w o : DirectoryState) (opened : List OpenSegment) → Filled analyzer input a n.work n.output
          → Opened (merge_of analyzer input) opened n w o → 2 ^ 31 ≤ kept_count opened → P (InvalidArgument Documents))
          → ((n : Directories) (w o : DirectoryState) (opened : List OpenSegment) → Filled analyzer input a n.work n.output
          → Opened (merge_of analyzer input) opened n w o → kept_count opened < 2 ^ 31
          → joined (first_schema (merge_of analyzer input).segments) opened ≡ None → P (InvalidArgument Numbers))
          → IfRefusal P e
      exit_refused e a b (in_listing h) in_count in_numbers = write_unrefused P e _ _ (calls_so {T = Unit {0}} e (tt, tt) h)
      exit_refused e a b (in_output_listing h) in_count in_numbers =
          write_unrefused P e _ _ (calls_so {T = Unit {0}} e (tt, tt) h)
      exit_refused e a b (in_beginning w lists h) in_count in_numbers =
          write_unrefused P e _ _ (calls_so {T = Unit {0}} e (tt, (tt, (tt, tt))) h)
      exit_refused e a b (in_filling w o begun h) in_count in_numbers =
          refusal_weaker _ P in_batch e
          (filled_refused input.settings input.schema analyzer (work_ids input.ids) input.cuts input.operations
          (many analyzer input fits) e w b.work h)
      exit_refused e a b (in_merging n filled h) in_count in_numbers =
          merge_refused (merge_of analyzer input) merged e n b P
          (λ opened was more. in_count n b.work b.output opened filled was more)
          (λ opened o was few none. in_numbers n b.work o opened filled was few none) h

module _ (known : Known) (analyzer : Analyzer) (input : Input) where
  module _ (fits : Fits analyzer input) (settings : settings_fit input.settings ≡ true)
      (none : input_refusal known analyzer input ≡ None) (e : TantivyError) (a b : Directories) (exit : Exits analyzer input e a b) where
    pub stopped_fresh : AreEmpty a → e ≢ IndexAlreadyExists
    stopped_fresh empty is = exit_fresh analyzer input fits settings e a b empty exit is

    pub stopped_whole : IsTrue a.work.tells → IsNoDamage e
    stopped_whole told = exit_undamaged analyzer input fits settings e a b told exit

    abbrev IsWhy : TantivyError → Type 0
    IsWhy x = build_refusal known analyzer input ≡ Some x

    in_batch : (x : TantivyError) → batches_error input.schema analyzer 0 input.cuts input.operations ≡ Some x → IsWhy x
    in_batch x is = by_batches known analyzer input x none is

    -- what was opened are the readings of the live batches
    read_back : HoldsOneContents → IsTrue a.work.tells → (n : Directories) (w o : DirectoryState) (opened : List OpenSegment)
        → Filled analyzer input a n.work n.output → Opened (merge_of analyzer input) opened n w o
        → AreReadingsOf input.schema analyzer (live_batches (length input.operations) input.filters (input_batches analyzer input)) (map part_of opened)
    read_back one told n w o opened filled was =
        are_readings analyzer input fits a n.work n.output filled told one opened
        (opened_held (merge_of analyzer input) opened n.work w (told_filled analyzer input fits a n.work n.output filled told) was.opens)

    pub stopped_refused : JoiningIsInvisible → HoldsOneContents → IsTrue a.work.tells → IfRefusal IsWhy e
    stopped_refused law one told = exit_refused analyzer input fits settings IsWhy in_batch e a b exit
        (λ n w o opened filled was more.
        let readings = read_back one told n w o opened filled was in
        by_survivors known analyzer input (is_written analyzer input fits a n.work n.output filled) none
        (subst (λ (n : ℕ). 2 ^ 31 ≤ n) (kept_survivors (length input.operations) analyzer input opened fits.filters readings) more))
        (λ n w o opened filled was few mixed.
        let readings = read_back one told n w o opened filled was in
        by_numbers known analyzer input (is_written analyzer input fits a n.work n.output filled) none
        (subst (λ (n : ℕ). n < 2 ^ 31) (kept_survivors (length input.operations) analyzer input opened fits.filters readings) few)
        (survivors_joined law (length input.operations) analyzer input opened fits.filters readings
        ∙ sym (ap (λ (s : Schema). joined s opened) (work_schema analyzer input fits)) ∙ mixed))

    pub stopped_untold : IfRefusal (IsWhyUntold known analyzer input) e
    stopped_untold =
        exit_refused analyzer input fits settings (IsWhyUntold known analyzer input) (λ x is. inl (in_batch x is)) e a b exit
        (λ n w o opened filled was more. inr (inl refl)) (λ n w o opened filled was few mixed. inr (inr refl))
