-- The output of a merge, filled; and the turns of a merge, put together.
use Rattle.std.proofs.Common.{◌≡◌, ◌≤◌, ◌<◌, ◌∙◌, ℕ, Bool, true, false, List, [], ◌∷◌, ◌++◌, length, drop, get_or, min, Option, None, Result, Ok, Err, refl, sym, ap, subst, arith}
use Rattle.std.specs.Prelude.{IfOk, nat_le}
use Rattle.std.specs.List.{AllByRecursion, filter}
use Rattle.std.proofs.lemmas.Bool.Decides.{nat_tests}
use Rattle.std.proofs.lemmas.List.{append-nil, drop_all}
use Rattle.seg_segment.proofs.Exports.{failing, same_error}
use Rattle.seg_common.proofs.Lists.{all_filtered}
use Rattle.seg_values.specs.declared.error.ArgumentCause.TheVariants.{Filters, Numbers}
use Rattle.seg_values.specs.declared.error.TantivyError.{TantivyError}
use Rattle.seg_values.specs.declared.error.TantivyError.TheVariants.{InvalidArgument, OutOfMemory}
use Rattle.seg_directory.proofs.Exports.{stops_before, then_does}
use Rattle.seg_directory.specs.DirectoryStates.{DirectoryState}
use Rattle.seg_directory.specs.DirectorySteps.{Works}
use Rattle.seg_meta.specs.IndexOfFiles.{Meta}
use Rattle.seg_meta.specs.Metas.{SegmentParts}
use Rattle.seg_model.specs.DocumentCheck.{unless}
use Rattle.seg_model.specs.Fields.{Schema}
use Rattle.seg_model.specs.Input.{Filter}
use Rattle.seg_model.specs.Input as input
use Rattle.seg_segment.specs.SegmentFiles.{write_steps}
use Rattle.seg_segment.specs.SegmentSerializers.{Serializing, unfilled}
use Rattle.seg_segment.specs.declared.segment_files.SegmentFiles.{SegmentFiles}
use Rattle.seg_open.specs.OpenSegment.{OpenSegment, kept_count}
use Rattle.seg_open.specs.OpeningSteps.{Asked, OpensSegments}
use Rattle.seg_open.proofs.Exports.{starves_all}
use Rattle.seg_merger.specs.Merger.{AreJoinedFiles, IsMergerOf, Merging, OpensMerger, WritesJoined, all_fit, makes, merger_refusal, mixes as merger_mixes, opens, refuses, runs_out, starves as merger_starves, stops as merger_stops}
use Rattle.seg_index_build.specs.IndexFiles.{merged_meta}
use Rattle.seg_index_build.specs.MergedSegments.{FillsOutput, FillsTo, MergeInput, MergesTo, OpensLive, are_opened, fills, first_schema, is_live, joined, kept_filters, live_asked, mixes, not_opened, output_meta_of, starves}
use Rattle.seg_index_build.specs.TwoDirectories.{both, goes_on, stops}
use Rattle.seg_index_build.specs.IndexWriteSteps.{begin_steps, publish_steps}
use Rattle.seg_index_build.proofs.MergeLists.{live_fit, live_parts}

-- ---- the filters of live segments, one after another

none_of : (xs : List SegmentParts) → kept_filters xs [] ≡ []
none_of [] = refl
none_of (x ∷ xs) = refl

pub all_kept : (segments : List SegmentParts) (filters : List (Option Filter)) (n : ℕ) → n ≡ min (length segments) (length filters)
    → (kept : List (Option Filter)) → kept ++ kept_filters (drop n segments) (drop n filters) ≡ kept_filters segments filters
    → kept ≡ kept_filters segments filters
all_kept segments filters n end kept so_far =
    sym (append-nil kept) ∙ ap (λ l. kept ++ l) (sym (by (nat_le (length segments) n) refl)) ∙ so_far
  where
    by : (b : Bool) → nat_le (length segments) n ≡ b → kept_filters (drop n segments) (drop n filters) ≡ []
    by true p =
        let h : length segments ≤ n = grind (arith, nat_tests) in
        ap (λ l. kept_filters l (drop n filters)) (drop_all n segments h)
    by false p =
        let h : n < length segments = grind (arith, nat_tests) in
        ap (kept_filters (drop n segments)) (drop_all n filters (omega (arith, h, end))) ∙ none_of (drop n segments)

-- ---- segments are opened

-- memory runs out before any call
pub live_starved : (asked : List Asked) (a : DirectoryState) → OpensLive asked (Err OutOfMemory) a a
live_starved asked a = not_opened OutOfMemory refl (starves_all asked a)

module _ (schema : Schema) (segments : List SegmentParts) (filters : List (Option Filter)) (given : Schema) (live : List SegmentParts)
    (same : given ≡ schema) (lives : live ≡ filter (λ s. is_live s.meta) segments) where
  pub live_of_schema : AllByRecursion (λ (s : SegmentParts). s.schema ≡ schema) segments
      → AllByRecursion (λ (s : SegmentParts). s.schema ≡ given) live
  live_of_schema all =
      subst (λ (l : List SegmentParts). AllByRecursion (λ (s : SegmentParts). s.schema ≡ given) l) (sym lives)
      (subst (λ (x : Schema). AllByRecursion (λ (s : SegmentParts). s.schema ≡ x) (filter (λ s. is_live s.meta) segments)) (sym same)
      (all_filtered (λ (s : SegmentParts). s.schema ≡ schema) (λ s. is_live s.meta) segments all))

  module _ (fit : all_fit filters segments ≡ true) (a b : DirectoryState) where
    abbrev live_ones : List SegmentParts
    live_ones = filter (λ s. is_live s.meta) segments

    unrefused : merger_refusal live_ones (kept_filters segments filters) ≡ None
    unrefused = ap (λ t. unless t (InvalidArgument Filters)) (live_fit segments filters fit)

    abbrev asks : List Asked → Result (List OpenSegment) TantivyError → Type 0
    asks asked r = OpensSegments asked r a b

    by_cases : (r : Result Merging TantivyError) → OpensMerger schema live_ones (kept_filters segments filters) r a b
        → OpensLive (live_asked segments filters) r a b
    by_cases r (refuses e is refusal stays) = absurd (cc (sym unrefused ∙ refusal))
    by_cases r (merger_starves is stays) =
        subst (λ (x : Result Merging TantivyError). OpensLive (live_asked segments filters) x a b) (sym is)
        (subst (λ (s : DirectoryState). OpensLive (live_asked segments filters) (Err OutOfMemory) a s) (sym stays)
        (live_starved (live_asked segments filters) a))
    by_cases r (merger_stops e is none ends) =
        not_opened e is (subst (λ (l : List Asked). asks l (Err e)) (live_parts segments filters fit) ends)
    by_cases r (opens opened none ends tells ok) =
        are_opened opened (subst (λ (l : List Asked). asks l (Ok opened)) (live_parts segments filters fit) ends) tells
        (readers r ok)
      where
        readers : (r : Result Merging TantivyError) → IfOk r (λ merger. IsMergerOf schema opened merger)
            → IfOk r (λ merger. merger.readers ≡ opened)
        readers (Ok merger) is = is.readers
        readers (Err e) is = tt

    pub live_opened : (kept : List (Option Filter)) → kept ≡ kept_filters segments filters
        → (r : Result Merging TantivyError) → OpensMerger given live kept r a b
        → OpensLive (live_asked segments filters) r a b
    live_opened kept is r h =
        by_cases r
        (subst (λ (x : Schema). OpensMerger x live_ones (kept_filters segments filters) r a b) same
        (subst (λ (l : List SegmentParts). OpensMerger given l (kept_filters segments filters) r a b) lives
        (subst (λ (k : List (Option Filter)). OpensMerger given live k r a b) is h)))

-- ---- the output is filled

pub meta_as : (settings : input.Settings) (s t : Schema) (ids js : List ℕ) (id n k : ℕ) (meta : Meta)
    → meta ≡ merged_meta settings s ids id n → s ≡ t → ids ≡ js → n ≡ k → meta ≡ merged_meta settings t js id k
meta_as settings s t ids js id n k meta is same_schema same_ids same_number =
    is ∙ ap (λ (x : Schema). merged_meta settings x ids id n) same_schema
    ∙ ap (λ (l : List ℕ). merged_meta settings t l id n) same_ids ∙ ap (merged_meta settings t js id) same_number

module _ (m : MergeInput) (readers : List OpenSegment) (segment : SegmentParts) (given : Serializing)
    (made : given ≡ unfilled segment m.settings.block_size) (schema_is : segment.schema ≡ first_schema m.segments) (id_is : segment.meta.id ≡ m.id) where
  abbrev Does : {T : Type 0} → Result T TantivyError → DirectoryState → DirectoryState → Type 0
  Does r a b = (n : ℕ) → given ≡ unfilled given.segment n → WritesJoined given.segment n readers r a b

  written : {T : Type 0} (r : Result T TantivyError) (a b : DirectoryState) → Does r a b
      → WritesJoined segment m.settings.block_size readers r a b
  written r a b does =
      subst (λ (s : Serializing). (n : ℕ) → s ≡ unfilled s.segment n → WritesJoined s.segment n readers r a b) made does
      m.settings.block_size refl

  joins_as : (files : SegmentFiles) → AreJoinedFiles segment.schema m.settings.block_size readers files
      → AreJoinedFiles (first_schema m.segments) m.settings.block_size readers files
  joins_as files joins = subst (λ (s : Schema). AreJoinedFiles s m.settings.block_size readers files) schema_is joins

  works_at : {T : Type 0} (files : SegmentFiles) (r : Result T TantivyError) (a b : DirectoryState)
      → Works (write_steps segment.meta.id files) r a b → Works (write_steps m.id files) r a b
  works_at files r a b works = subst (λ (id : ℕ). Works (write_steps id files) r a b) id_is works

  unwritten : (S T : Type 0) (e : TantivyError) (a b : DirectoryState)
      → WritesJoined {T = S} segment m.settings.block_size readers (Err e) a b → FillsOutput {T = T} m readers (Err e) a b
  unwritten S T e a b (runs_out is same) = starves (ap (failing T) (same_error S e OutOfMemory is)) same
  unwritten S T e a b (merger_mixes is none same) =
      mixes (ap (failing T) (same_error S e (InvalidArgument Numbers) is))
      (sym (ap (λ (s : Schema). joined s readers) schema_is) ∙ none) same
  unwritten S T e a b (makes files joins works) =
      fills files (joins_as files joins)
      (stops_before (publish_steps (output_meta_of m (kept_count readers))) (works_at files (failing S e) a b works))

  -- its files are not made
  pub not_filled : (S : Type 0) (e : TantivyError) (a b : DirectoryState) → Does {T = S} (Err e) a b → FillsTo m readers (Err e) a b
  not_filled S e a b does = record { fills = unwritten S Meta e a b (written (failing S e) a b does); meta = tt }

  then_saved : {S T : Type 0} (x : S) (r : Result T TantivyError) (a v b : DirectoryState)
      → WritesJoined segment m.settings.block_size readers (Ok x) a v
      → Works (publish_steps (output_meta_of m (kept_count readers))) r v b → FillsOutput m readers r a b
  then_saved x r a v b (runs_out is same) saves = absurd (cc is)
  then_saved x r a v b (merger_mixes is none same) saves = absurd (cc is)
  then_saved x r a v b (makes files joins works) saves =
      fills files (joins_as files joins) (then_does (works_at files (Ok x) a v works) saves)

  -- or they are, and its meta is saved, or not
  pub is_filled : {S T : Type 0} (x : S) (r : Result T TantivyError) (a v b : DirectoryState) → Does (Ok x) a v
      → (meta : Meta) → meta ≡ output_meta_of m (kept_count readers) → Works (publish_steps meta) r v b
      → FillsOutput m readers r a b
  is_filled x r a v b does meta is saves =
      then_saved x r a v b (written (Ok x) a v does)
      (subst (λ (y : Meta). Works (publish_steps y) r v b) is saves)

-- ---- all turns

-- the schema of the first segment
pub first_at : (segments : List SegmentParts) (x : SegmentParts) → x ≡ get_or segments 0 x → (segments ≡ [] → ⊥)
    → x.schema ≡ first_schema segments
first_at [] x is some = absurd (some refl)
first_at (s ∷ segments) x is some = ap (λ (y : SegmentParts). y.schema) is

module _ (m : MergeInput) (schema : Schema) (schema_is : schema ≡ first_schema m.segments) (w o v : DirectoryState) where
  begins_as : (r : Result (Unit {0}) TantivyError) → Works (begin_steps m.settings schema) r o v
      → Works (begin_steps m.settings (first_schema m.segments)) r o v
  begins_as r works = subst (λ (s : Schema). Works (begin_steps m.settings s) r o v) schema_is works

  -- the output index isn't begun
  pub not_begun : (e : TantivyError) → Works {T = Unit {0}} (begin_steps m.settings schema) (Err e) o v
      → MergesTo m (Err e) (both w o) (both w v)
  not_begun e works = stops e refl (begins_as (failing (Unit {0}) e) works, refl)

  module _ (u : Unit {0}) (begun : Works (begin_steps m.settings schema) (Ok u) o v) (x : DirectoryState) where
    -- segments are not opened
    pub not_live : (e : TantivyError) → OpensLive (live_asked m.segments m.filters) (Err e) w x
        → MergesTo m (Err e) (both w o) (both x v)
    not_live e (not_opened d is ends) =
        goes_on u (both w v) (begins_as (Ok u) begun, refl)
        (stops e refl (subst (λ (y : TantivyError). OpensSegments (live_asked m.segments m.filters) (Err y) w x) (sym (same_error Merging e d is)) ends, refl))
    not_live e (are_opened opened ends tells ok) =
        goes_on u (both w v) (begins_as (Ok u) begun, refl)
        (goes_on opened (both x v) (ends, refl) (stops e refl (tells, refl)))

    -- or they are, and the output is filled, or not
    pub all_merged : (merger : Merging) → OpensLive (live_asked m.segments m.filters) (Ok merger) w x
        → (r : Result Meta TantivyError) (y : DirectoryState) → FillsTo m merger.readers r v y
        → MergesTo m r (both w o) (both x y)
    all_merged merger (not_opened d is ends) r y filled = absurd (cc is)
    all_merged merger (are_opened opened ends few is) r y filled =
        goes_on u (both w v) (begins_as (Ok u) begun, refl)
        (goes_on opened (both x v) (ends, refl)
        (goes_on tt (both x v) (few, refl)
        (subst (λ (l : List OpenSegment). FillsTo m l r v y) is filled, refl)))
