-- What the building of an index comes to, put together of the work index and the merge.
use Rattle.std.proofs.Common.{◌≡◌, ◌∙◌, ◌+◌, ◌<◌, ◌^◌, ℕ, List, length, map, None, Result, Ok, Err, sym, ap, subst}
use Rattle.std.specs.Prelude.{IfOk}
use Rattle.std.proofs.lemmas.Option.{MatchOption-from_none}
use Rattle.seg_segment.proofs.Exports.{failing, same_error}
use Rattle.seg_values.specs.declared.error.TantivyError.{TantivyError}
use Rattle.seg_values.specs.declared.error.TantivyError.TheVariants.{OutOfMemory}
use Rattle.seg_directory.specs.DirectoryStates.{DirectoryState}
use Rattle.seg_meta.specs.IndexOfFiles as index
use Rattle.seg_meta.specs.IndexOfFiles.{ListedSegment}
use Rattle.seg_meta.specs.MetaBounds.{AreReadBack}
use Rattle.seg_meta.specs.MetaMeaning.{meta_of}
use Rattle.seg_meta.specs.Metas.{segment_of}
use Rattle.seg_meta.specs.SavableMetas.{IsMetaList}
use Rattle.seg_meta.specs.declared.index_meta.IndexMeta.{IndexMeta}
use Rattle.seg_model.specs.Fields.{Analyzer, Schema}
use Rattle.seg_model.specs.Input.{Input}
use Rattle.seg_model.specs.Laws.{JoiningIsInvisible}
use Rattle.seg_model.specs.ValidInputs.{Known, are_distinct, input_refusal}
use Rattle.seg_check.specs.AdmittedInputs.{Fits}
use Rattle.seg_open.specs.Answers.{seen_as}
use Rattle.seg_segment.specs.Laws.{HoldsOneContents}
use Rattle.seg_index_build.specs.BuildOutcomes.{BuildComesTo, EndsBuilding, StopsBuilding}
use Rattle.seg_index_build.specs.DirectoryCalls.{BeginsIndexes, BuildsIndexes, WritesIndexes, WritesWork, merge_of}
use Rattle.seg_index_build.specs.IndexFiles.{output_id, work_ids, work_listed, work_meta, work_segments}
use Rattle.seg_index_build.specs.MergeAnswers.{IsMergedAs}
use Rattle.seg_index_build.specs.MergePlans.{IsMergePlan, planned}
use Rattle.seg_index_build.specs.MergedSegments.{AreMerged, IsReadBack, MergeInput, MergesLive}
use Rattle.seg_index_build.specs.TwoDirectories.{Directories, goes_on, stops}
use Rattle.seg_index_build.specs.declared.merge_plan.MergePlan.{MergePlan}
use Rattle.seg_index_build.proofs.BuildErrors.{complete_of, error_of_exit, stopped_fresh, stopped_refused, stopped_untold, stopped_whole}
use Rattle.seg_index_build.proofs.BuildOnDisk.{build_leaves}
use Rattle.seg_index_build.proofs.BuildOutcomes.{not_begun}
use Rattle.seg_index_build.proofs.BuildRefusals.{settings_suit}
use Rattle.seg_index_build.proofs.BuildTurns.{work_goes, work_stops}
use Rattle.seg_index_build.proofs.FillSteps.{as_many, ids_are, meta_list}
use Rattle.seg_index_build.proofs.FilledWorkIndex.{are_merged}
use Rattle.seg_index_build.proofs.KeptDirectories.{others_kept, refused_leaves}
use Rattle.seg_index_build.proofs.MergeCalls.{call_is, is_built}
use Rattle.seg_index_build.proofs.MergeTurns.{starved}
use Rattle.seg_index_build.proofs.SegmentIds.{ids_many, work_few}
use Rattle.seg_index_build.proofs.TakenParts.{fits_of}
use Rattle.seg_index_build.proofs.WritingExits.{Filled, exits, filled_so_far}
use Rattle.seg_index_build.proofs.WritingPlaces.{distinct, many}
use Rattle.seg_index_build.proofs.WrittenIndexes.{builds_both}

module _ (known : Known) (analyzer : Analyzer) (input : Input) where
  -- ---- once the work index is written

  pub admitted : {S : Type 0} (x : S) (a m : Directories) → WritesWork known analyzer input (Ok x) a m
      → input_refusal known analyzer input ≡ None
  admitted x a m (stops e is h) = absurd (cc is)
  admitted x a m (goes_on u n h rest) = h.0

  work_fits : {S : Type 0} (x : S) (a m : Directories) → WritesWork known analyzer input (Ok x) a m → Fits analyzer input
  work_fits x a m work = fits_of known analyzer input (admitted x a m work)

  pub two_ids : {S : Type 0} (x : S) (a m : Directories) → WritesWork known analyzer input (Ok x) a m
      → length input.ids ≡ length input.cuts + 2
  two_ids x a m work = ids_many input.cuts input.ids (work_fits x a m work).ids

  filled_at : {S : Type 0} (x : S) (a m : Directories) → WritesWork known analyzer input (Ok x) a m
      → Filled analyzer input a m.work m.output
  filled_at x a m (stops e is h) = absurd (cc is)
  filled_at x a m (goes_on u n h (stops e is k)) = absurd (cc is)
  filled_at x a m (goes_on u n h (goes_on v p begins fills)) =
      subst (λ (s : DirectoryState). Filled analyzer input a m.work s) (sym fills.1)
      (filled_so_far analyzer input v x a p.work p.output m.work
      (subst (λ (d : Directories). BeginsIndexes input.settings input.schema (let done : Result (Unit {0}) TantivyError = Ok v in done) d p) h.1 begins)
      fills.0)

  -- its meta lists its segments
  module _ (metas : IndexMeta) (is_meta : meta_of metas ≡ work_meta analyzer input) where
    listed_are : metas.segments ≡ work_listed analyzer input
    listed_are = ap (λ (m : index.Meta). m.segments) is_meta

    pub is_list : {S : Type 0} (x : S) (a m : Directories) → WritesWork known analyzer input (Ok x) a m → IsMetaList metas.segments
    is_list x a m work =
        let fits = work_fits x a m work in
        meta_list (length input.operations) (work_segments analyzer input) metas.segments listed_are
        (subst (λ (n : ℕ). n < 2 ^ 32)
        (sym (as_many input.schema analyzer (work_ids input.ids) input.cuts input.operations (many analyzer input fits)))
        (work_few input.cuts input.ids fits.batches fits.ids))
        (ap are_distinct (ids_are input.schema analyzer (work_ids input.ids) input.cuts input.operations (many analyzer input fits))
        ∙ distinct analyzer input fits)

    module _ (plan : MergePlan) (is_plan : IsMergePlan input plan) where
      pub plan_is : planned metas plan ≡ merge_of analyzer input
      plan_is =
          call_is input (work_listed analyzer input) (map (segment_of metas.schema) metas.segments) plan.settings
          plan.filters.items plan.id
          (ap (λ (s : Schema). map (segment_of s) metas.segments) (ap (λ (m : index.Meta). m.schema) is_meta)
          ∙ ap (λ (l : List ListedSegment). map (segment_of input.schema) l) listed_are)
          is_plan.settings is_plan.filters is_plan.id

      pub plan_merges : {S : Type 0} (x : S) (a m : Directories) → WritesWork known analyzer input (Ok x) a m
          → AreMerged (planned metas plan)
      plan_merges x a m work =
          subst AreMerged (sym plan_is)
          (are_merged analyzer input (work_fits x a m work) (settings_suit known analyzer input (admitted x a m work)))

  -- ---- the answer

  module _ (law : JoiningIsInvisible) (one : HoldsOneContents) (reads : AreReadBack input.settings input.schema)
      (id_fits : output_id input.ids < 2 ^ 128) where
    stopped : (T : Type 0) (e : TantivyError) (a b : Directories) → input_refusal known analyzer input ≡ None
        → WritesIndexes {T = T} analyzer input (Err e) a b → StopsBuilding known analyzer input e a b
    stopped T e a b none writes =
        let fits = fits_of known analyzer input none in
        let settings = settings_suit known analyzer input none in
        let exit = exits analyzer input T e a b writes in
        let error = error_of_exit analyzer input e a b exit in
        record {
          first = MatchOption-from_none _ _ none;
          refused = stopped_refused known analyzer input fits settings none e a b exit law one;
          untold = stopped_untold known analyzer input fits settings none e a b exit;
          batch_refused = refused_leaves analyzer input fits T e a b writes;
          fresh = stopped_fresh known analyzer input fits settings none e a b exit;
          whole = stopped_whole known analyzer input fits settings none e a b exit;
          errors = error;
          complete = λ can.
              complete_of known analyzer input e a b error
              (stopped_refused known analyzer input fits settings none e a b exit law one can.empty.work_tells)
              (stopped_fresh known analyzer input fits settings none e a b exit can.empty)
              (stopped_whole known analyzer input fits settings none e a b exit can.empty.work_tells) can;
          any_moment = λ told clean. build_leaves analyzer input fits reads id_fits one law a told clean (failing T e) b writes;
        }

    stops_building : (T : Type 0) (e : TantivyError) (a b : Directories) → BuildsIndexes {T = T} known analyzer input (Err e) a b
        → StopsBuilding known analyzer input e a b
    stops_building T e a b (stops d is h) =
        subst (λ (x : TantivyError). StopsBuilding known analyzer input x a b) (sym (same_error T e d is))
        (subst (λ (s : Directories). StopsBuilding known analyzer input d a s) (sym h.1) (not_begun known analyzer input d a h.0))
    stops_building T e a b (goes_on u n h writes) =
        subst (λ (s : Directories). StopsBuilding known analyzer input e s b) h.1 (stopped T e n b h.0 writes)

    fails : (e : TantivyError) (a b : Directories) → BuildsIndexes {T = IndexMeta} known analyzer input (Err e) a b
        → BuildComesTo known analyzer input (Err e) a b
    fails e a b calls = record {
      ends = stops_building IndexMeta e a b calls;
      others = others_kept analyzer input known (failing IndexMeta e) a b calls;
      calls = calls;
    }

    -- the work index isn't written
    pub stops_at_work : (S : Type 0) (e : TantivyError) (a b : Directories) → WritesWork {T = S} known analyzer input (Err e) a b
        → BuildComesTo known analyzer input (Err e) a b
    stops_at_work S e a b work = fails e a b (work_stops known analyzer input S IndexMeta e a b work)

    module _ {S : Type 0} (x : S) (a m : Directories) (work : WritesWork known analyzer input (Ok x) a m) where
      -- memory runs out before the merge
      pub starves_between : BuildComesTo known analyzer input (Err OutOfMemory) a m
      starves_between =
          fails OutOfMemory a m
          (work_goes known analyzer input x (failing IndexMeta OutOfMemory) a m m work
          (starved (merge_of analyzer input) IndexMeta m))

      merged_to : IsReadBack (work_meta analyzer input) → (r : Result IndexMeta TantivyError) (b : Directories)
          → IfOk r (λ built. IsMergedAs (merge_of analyzer input) m b (meta_of built))
          → MergesLive (merge_of analyzer input) r m b → BuildComesTo known analyzer input r a b
      merged_to read (Err e) b built merges =
          fails e a b (work_goes known analyzer input x (failing IndexMeta e) a m b work merges)
      merged_to read (Ok metas) b built merges =
          let answer : Result IndexMeta TantivyError = Ok metas in
          let calls = work_goes known analyzer input x answer a m b work merges in
          record { ends = of_calls calls; others = others_kept analyzer input known answer a b calls; calls = calls }
        where
          of_calls : BuildsIndexes known analyzer input (Ok metas) a b
              → EndsBuilding known analyzer input (seen_as (λ (i : IndexMeta). meta_of i) (Ok metas)) a b
          of_calls (stops d is h) = absurd (cc is)
          of_calls (goes_on u n h writes) =
              let fits = work_fits x a m work in
              builds_both metas known analyzer input fits (admitted x a m work) (meta_of metas) a b
              (is_built analyzer input fits a m (filled_at x a m work) (λ (i : IndexMeta). meta_of i) read
              (let answer : Result IndexMeta TantivyError = Ok metas in answer) b built)
              (subst (λ (s : Directories). WritesIndexes analyzer input (let answer : Result IndexMeta TantivyError = Ok metas in answer) s b) h.1 writes)
              law one reads id_fits

      -- its segments are merged by a plan
      pub merged_as : (metas : IndexMeta) → meta_of metas ≡ work_meta analyzer input → (plan : MergePlan)
          → IsMergePlan input plan → IsReadBack (meta_of metas) → (r : Result IndexMeta TantivyError) (b : Directories)
          → IfOk r (λ built. IsMergedAs (planned metas plan) m b (meta_of built)) → MergesLive (planned metas plan) r m b
          → BuildComesTo known analyzer input r a b
      merged_as metas is_meta plan is_plan read r b built merges =
          let same = plan_is metas is_meta plan is_plan in
          merged_to (subst IsReadBack is_meta read) r b
          (subst (λ (i : MergeInput). IfOk r (λ made. IsMergedAs i m b (meta_of made))) same built)
          (subst (λ (i : MergeInput). MergesLive i r m b) same merges)
