-- The segments of batches, written one after another: those so far, and those that are left.
use Rattle.std.proofs.Common.{◌≡◌, ◌∙◌, ℕ, ◌+◌, ◌≤◌, List, [], ◌∷◌, ◌++◌, map, length, drop, append_assoc, Option, Some, Result, Ok, Err, refl, sym, ap, subst, inl, inr, arith}
use Rattle.std.specs.List.{slice_get}
use Rattle.std.proofs.lemmas.List.{append-nil, drop_all, length-append}
use Rattle.seg_common.proofs.Lists.{drop-slice_get}
use Rattle.seg_values.specs.declared.error.TantivyError.{TantivyError}
use Rattle.seg_values.specs.declared.error.TantivyError.TheVariants.{OutOfMemory}
use Rattle.seg_directory.proofs.Exports.{answers, does_nothing, stops, then_does}
use Rattle.seg_directory.specs.DirectoryStates.{DirectoryState}
use Rattle.seg_directory.specs.DirectorySteps.{Step, Works, passes}
use Rattle.seg_model.specs.Fields.{Schema, Analyzer}
use Rattle.seg_model.specs.Operations.{Operation, Batch}
use Rattle.seg_segment.specs.declared.segment_files.SegmentFiles.{SegmentFiles}
use Rattle.seg_batches.specs.WrittenSegments.{WrittenSegment, segment_of, segments_of}
use Rattle.seg_batches.specs.BatchWriteSteps.{AllStandFor, MakesBatches, batch_between, batch_cause, batch_steps, batches_steps}
use Rattle.seg_batches.proofs.BatchTurns.{Turn, batches_left, part_here, parts_left}

module _ (causes : List (Option TantivyError)) (schema : Schema) (size : ℕ) (analyzer : Analyzer) (ids : List ℕ)
    (batches : List Batch) where
  -- some batches are written, and with those that are left they are all
  pub record SoFar (ids_left : List ℕ) (causes_left : List (Option TantivyError)) (left : List Batch)
      (a b : DirectoryState) : Type 0 where
    pub files : List SegmentFiles
    pub steps : List Step
    pub works : Works {T = Unit {0}} steps (Ok tt) a b
    pub many : length files + length ids_left ≡ length ids
    pub are : (next : List SegmentFiles)
        → batches_steps ids causes (files ++ next) ≡ steps ++ batches_steps ids_left causes_left next
    pub stand : (next : List SegmentFiles) → length next ≤ length ids_left → AllStandFor schema size analyzer next left
        → AllStandFor schema size analyzer (files ++ next) batches

  pub none_yet : (a : DirectoryState) → SoFar ids causes batches a a
  none_yet a =
      record { files = []; steps = []; works = record { on = (refl, tt) }; many = omega arith; are = λ next. refl; stand = λ next few h. h }

  module _ (ids_left : List ℕ) (causes_left : List (Option TantivyError)) (left : List Batch) (a b : DirectoryState)
      (so_far : SoFar ids_left causes_left left a b) where
    -- there is no memory for the others
    pub starves : {T : Type 0} → MakesBatches {T = T} causes schema size analyzer ids batches (Err OutOfMemory) a b
    starves {T = T} = record {
      files = so_far.files ++ [];
      stand = so_far.stand [] (omega arith) tt;
      whole = tt;
      works =
          subst (λ steps. Works {T = T} steps (Err OutOfMemory) a b) (sym (so_far.are []))
          (then_does so_far.works (does_nothing (batches_steps ids_left causes_left [])));
    }

    -- none is left
    pub all_written : {T : Type 0} (x : T) → ids_left ≡ [] → MakesBatches causes schema size analyzer ids batches (Ok x) a b
    all_written x gone = record {
      files = so_far.files ++ [];
      stand = so_far.stand [] (omega arith) tt;
      whole =
          omega (arith, length-append so_far.files (let none : List SegmentFiles = [] in none), so_far.many, ap length gone);
      works =
          subst (λ steps. Works steps (Ok x) a b) (sym (so_far.are [] ∙ ap (λ is. so_far.steps ++ batches_steps is causes_left []) gone)) (then_does so_far.works (record { on = (refl, tt) }));
    }

-- ---- one more batch

module _ (start : Option TantivyError) (schema : Schema) (size : ℕ) (analyzer : Analyzer) (operations : List Operation)
    (cuts : List ℕ) (at first end : ℕ) (t : Turn schema analyzer operations cuts at first end) (ids : List ℕ)
    (many : length ids ≡ length cuts + 1) (id : ℕ) (found : slice_get ids at ≡ Some id) where
  -- this batch, and those after it
  abbrev this : Batch
  this = batch_between schema analyzer first end operations

  abbrev cause : Option TantivyError
  cause = batch_cause start schema analyzer (part_here operations first end)

  abbrev left_now : List Batch
  left_now = batches_left schema analyzer operations cuts at first

  abbrev left_then : List Batch
  left_then = batches_left schema analyzer operations cuts (at + 1) end

  abbrev causes_now : List (Option TantivyError)
  causes_now = map (batch_cause start schema analyzer) (parts_left operations cuts at first)

  abbrev causes_then : List (Option TantivyError)
  causes_then = map (batch_cause start schema analyzer) (parts_left operations cuts (at + 1) end)

  no_ids : length cuts ≤ at → drop (at + 1) ids ≡ []
  no_ids le = drop_all (at + 1) ids (omega (arith, many, le))

  -- its segment
  segments_here : segments_of (drop at ids) left_now ≡ segment_of id this ∷ segments_of (drop (at + 1) ids) left_then
  segments_here = ap (λ l. segments_of l left_now) (drop-slice_get ids at id found) ∙ elim t.is_first [
    | inl more ↦ ap (λ bs. segments_of (id ∷ drop (at + 1) ids) bs) more.1
    | inr last ↦ ap (λ bs. segments_of (id ∷ drop (at + 1) ids) bs) last.1 ∙ ap (λ ss. segment_of id this ∷ ss) (ap (λ l. segments_of l []) (no_ids last.0) ∙ sym (ap (λ l. segments_of l left_then) (no_ids last.0)))
  ]

  pub segments_turn : (written now all : List WrittenSegment) (s : WrittenSegment) → now ≡ written ++ s ∷ []
      → s ≡ segment_of id this → written ++ segments_of (drop at ids) left_now ≡ all
      → now ++ segments_of (drop (at + 1) ids) left_then ≡ all
  segments_turn written now all s grown is so_far =
      ap (λ l. l ++ segments_of (drop (at + 1) ids) left_then) (grown ∙ ap (λ (w : WrittenSegment). written ++ w ∷ []) is)
      ∙ append_assoc written (segment_of id this ∷ []) (segments_of (drop (at + 1) ids) left_then)
      ∙ ap (λ l. written ++ l) (sym segments_here)
      ∙ so_far

  -- its steps
  steps_here : (f : SegmentFiles) (next : List SegmentFiles)
      → batches_steps (drop at ids) causes_now (f ∷ next) ≡ batch_steps id cause f ++ batches_steps (drop (at + 1) ids) causes_then next
  steps_here f next = ap (λ l. batches_steps l causes_now (f ∷ next)) (drop-slice_get ids at id found) ∙ elim t.is_first [
    | inl more ↦ ap (λ parts. batches_steps (id ∷ drop (at + 1) ids) (map (batch_cause start schema analyzer) parts) (f ∷ next)) more.2
    | inr last ↦ ap (λ parts. batches_steps (id ∷ drop (at + 1) ids) (map (batch_cause start schema analyzer) parts) (f ∷ next)) last.2
        ∙ ap (λ steps. batch_steps id cause f ++ steps) (ap (λ l. batches_steps l [] next) (no_ids last.0) ∙ sym (ap (λ l. batches_steps l causes_then next) (no_ids last.0)))
  ]

  -- where it has no files it is tested, and no more
  test_here : batches_steps (drop at ids) causes_now [] ≡ passes cause ∷ []
  test_here = ap (λ l. batches_steps l causes_now []) (drop-slice_get ids at id found) ∙ elim t.is_first [
    | inl more ↦ ap (λ parts. batches_steps (id ∷ drop (at + 1) ids) (map (batch_cause start schema analyzer) parts) []) more.2
    | inr last ↦ ap (λ parts. batches_steps (id ∷ drop (at + 1) ids) (map (batch_cause start schema analyzer) parts) []) last.2
  ]

  -- and what its files stand for
  stand_here : (f : SegmentFiles) (next : List SegmentFiles) → AllStandFor schema size analyzer (f ∷ []) (this ∷ [])
      → length next ≤ length (drop (at + 1) ids) → AllStandFor schema size analyzer next left_then
      → AllStandFor schema size analyzer (f ∷ next) left_now
  stand_here f next here few rest = elim t.is_first [
    | inl more ↦ subst (AllStandFor schema size analyzer (f ∷ next)) (sym more.1) (here.0, rest)
    | inr last ↦ subst (AllStandFor schema size analyzer (f ∷ next)) (sym last.1) (here.0, none next (omega (arith, few, ap length (no_ids last.0))))
  ]
    where
      none : (fs : List SegmentFiles) → length fs ≤ 0 → AllStandFor schema size analyzer fs []
      none [] le = tt
      none (f ∷ fs) le = absurd (omega (arith, le))

  left_is : length (drop at ids) ≡ 1 + length (drop (at + 1) ids)
  left_is = let same : length (drop at ids) ≡ length (id ∷ drop (at + 1) ids) = ap length (drop-slice_get ids at id found) in omega (arith, same)

  -- it alone
  abbrev pub Makes : {T : Type 0} → Result T TantivyError → DirectoryState → DirectoryState → Type 0
  Makes r b c = MakesBatches (cause ∷ []) schema size analyzer (id ∷ []) (this ∷ []) r b c

  one_works : {T : Type 0} (f : SegmentFiles) (r : Result T TantivyError) (b c : DirectoryState)
      → Works (batch_steps id cause f ++ []) r b c → Works (batch_steps id cause f) r b c
  one_works f r b c = subst (λ steps. Works steps r b c) (append-nil (batch_steps id cause f))

  module _ (causes : List (Option TantivyError)) (batches : List Batch) (a b c : DirectoryState)
      (so_far : SoFar causes schema size analyzer ids batches (drop at ids) causes_now left_now a b) where
    -- its files come after those so far
    are_more : (f : SegmentFiles) (next : List SegmentFiles)
        → batches_steps ids causes (so_far.files ++ f ∷ next)
        ≡ so_far.steps ++ (batch_steps id cause f ++ batches_steps (drop (at + 1) ids) causes_then next)
    are_more f next = so_far.are (f ∷ next) ∙ ap (λ steps. so_far.steps ++ steps) (steps_here f next)

    stand_more : (f : SegmentFiles) (next : List SegmentFiles) → AllStandFor schema size analyzer (f ∷ []) (this ∷ [])
        → length next ≤ length (drop (at + 1) ids) → AllStandFor schema size analyzer next left_then
        → AllStandFor schema size analyzer (so_far.files ++ f ∷ next) batches
    stand_more f next here few h = so_far.stand (f ∷ next) (omega (arith, few, left_is)) (stand_here f next here few h)

    -- it is written
    pub batch_more : {T : Type 0} (x : T) → Makes (Ok x) b c
        → SoFar causes schema size analyzer ids batches (drop (at + 1) ids) causes_then left_then a c
    batch_more {T = T} x here = by here.files here.whole here.stand here.works
      where
        one_more : (f : SegmentFiles) → AllStandFor schema size analyzer (f ∷ []) (this ∷ [])
            → Works (batch_steps id cause f) (Ok x) b c
            → SoFar causes schema size analyzer ids batches (drop (at + 1) ids) causes_then left_then a c
        one_more f stand works = record {
          files = so_far.files ++ f ∷ [];
          steps = so_far.steps ++ batch_steps id cause f;
          works = then_does so_far.works (answers works);
          many = omega (arith, so_far.many, left_is, length-append so_far.files (f ∷ []));
          are = λ next.
              ap (batches_steps ids causes) (append_assoc so_far.files (f ∷ []) next)
              ∙ are_more f next
              ∙ sym (append_assoc so_far.steps (batch_steps id cause f) (batches_steps (drop (at + 1) ids) causes_then next));
          stand = λ next few h.
              subst (λ fs. AllStandFor schema size analyzer fs batches) (sym (append_assoc so_far.files (f ∷ []) next))
              (stand_more f next stand few h);
        }

        by : (fs : List SegmentFiles) → length fs ≡ 1 → AllStandFor schema size analyzer fs (this ∷ [])
            → Works (batches_steps (id ∷ []) (cause ∷ []) fs) (Ok x) b c
            → SoFar causes schema size analyzer ids batches (drop (at + 1) ids) causes_then left_then a c
        by [] many stand works = absurd (omega (arith, many))
        by (f ∷ []) many stand works = let done : Result T TantivyError = Ok x in one_more f stand (one_works f done b c works)
        by (f ∷ g ∷ fs) many stand works = absurd stand.1

    -- or not, which ends all
    pub batch_ends : {S T : Type 0} (e : TantivyError) → Makes {T = S} (Err e) b c
        → MakesBatches {T = T} causes schema size analyzer ids batches (Err e) a c
    batch_ends {S = S} {T = T} e here = by here.files here.stand here.works
      where
        by : (fs : List SegmentFiles) → AllStandFor schema size analyzer fs (this ∷ [])
            → Works {T = S} (batches_steps (id ∷ []) (cause ∷ []) fs) (Err e) b c
            → MakesBatches {T = T} causes schema size analyzer ids batches (Err e) a c
        by [] stand works = record {
          files = so_far.files ++ [];
          stand = so_far.stand [] (omega arith) tt;
          whole = tt;
          works =
              subst (λ steps. Works {T = T} steps (Err e) a c) (sym (so_far.are [] ∙ ap (λ steps. so_far.steps ++ steps) test_here))
              (then_does so_far.works (stops [] works));
        }
        by (f ∷ []) stand works =
            let failed : Result S TantivyError = Err e in
            record {
              files = so_far.files ++ f ∷ [];
              stand = stand_more f [] stand (omega arith) tt;
              whole = tt;
              works =
                  subst (λ steps. Works {T = T} steps (Err e) a c) (sym (are_more f []))
                  (then_does so_far.works
                  (stops (batches_steps (drop (at + 1) ids) causes_then []) (one_works f failed b c works)));
            }
        by (f ∷ g ∷ fs) stand works = absurd stand.1

-- ---- all of them

module _ (schema : Schema) (analyzer : Analyzer) (operations : List Operation) (cuts ids : List ℕ) (at first : ℕ) where
  pub all_segments : (written all : List WrittenSegment) → length ids ≤ at
      → written ++ segments_of (drop at ids) (batches_left schema analyzer operations cuts at first) ≡ all
      → written ≡ all
  all_segments written all le so_far =
      sym (append-nil written)
      ∙ sym (ap (λ l. written ++ segments_of l (batches_left schema analyzer operations cuts at first)) (drop_all at ids le))
      ∙ so_far
