-- The merge of the work segments, by what the call of it says.
use Rattle.std.proofs.Common.{◌≡◌, ◌∙◌, ℕ, List, IsTrue, map, Option, Some, None, Result, Ok, Err, sym, ap, subst, inl, inr}
use Rattle.std.specs.Prelude.{IfOk}
use Rattle.seg_segment.proofs.Exports.{failing}
use Rattle.seg_values.specs.declared.error.TantivyError.{TantivyError}
use Rattle.seg_values.specs.declared.error.TantivyError.TheVariants.{OutOfMemory}
use Rattle.seg_directory.specs.Files.{NamedFiles}
use Rattle.seg_meta.specs.IndexOfFiles as index
use Rattle.seg_meta.specs.IndexOfFiles.{ListedSegment, Meta}
use Rattle.seg_meta.specs.Metas.{SegmentParts, segment_of}
use Rattle.seg_meta.specs.MetaMeaning.{settings_of}
use Rattle.seg_meta.specs.declared.index_settings.IndexSettings.{IndexSettings}
use Rattle.seg_model.specs.Fields.{Analyzer}
use Rattle.seg_model.specs.Input as input
use Rattle.seg_model.specs.Input.{Filter, Input}
use Rattle.seg_check.specs.AdmittedInputs.{Fits}
use Rattle.seg_segment.specs.IndexForms.{segment_forms}
use Rattle.seg_index_build.specs.BuildOutcomes.{IsBuilt}
use Rattle.seg_index_build.specs.DirectoryCalls.{merge_listed, merge_of}
use Rattle.seg_index_build.specs.IndexFiles.{output_id, work_meta}
use Rattle.seg_index_build.specs.MergeAnswers.{IsMergeOf, IsMergedAs}
use Rattle.seg_index_build.specs.MergedSegments.{AreMerged, IsReadBack, MergeInput, MergesLive, MergesSegments, merge_input, output_meta_of}
use Rattle.seg_index_build.specs.TwoDirectories.{Directories, goes_on, stops, Passes, Then}
use Rattle.seg_index_build.proofs.WritingExits.{Filled}
use Rattle.seg_index_build.proofs.MergeOutcomes.{merged_refusal, one_only}
use Rattle.seg_index_build.proofs.MergeTurns.{starved}
use Rattle.seg_index_build.proofs.WritingPlaces.{output_told, told_filled}

abbrev made_of : List SegmentParts → input.Settings → List (Option Filter) → ℕ → MergeInput
made_of segments settings filters id = record { segments = segments; settings = settings; filters = filters; id = id }

-- what is asked for is the merge of listed segments
pub call_is : (i : Input) (listed_segments : List ListedSegment) (segments : List SegmentParts) (settings : IndexSettings)
    (filters : List (Option Filter)) (id : ℕ) → segments ≡ map (segment_of i.schema) listed_segments → settings_of settings ≡ i.settings
    → filters ≡ i.filters → id ≡ output_id i.ids → merge_input segments settings filters id ≡ merge_listed i listed_segments
call_is i listed_segments segments settings filters id are_segments are_settings are_filters is_id =
    ap (λ (l : List SegmentParts). merge_input l settings filters id) are_segments
    ∙ ap (λ (s : input.Settings). made_of (map (segment_of i.schema) listed_segments) s filters id) are_settings
    ∙ ap (λ (fs : List (Option Filter)). made_of (map (segment_of i.schema) listed_segments) i.settings fs id) are_filters
    ∙ ap (λ (n : ℕ). made_of (map (segment_of i.schema) listed_segments) i.settings i.filters n) is_id

-- nothing refuses it
module _ {T : Type 0} (m : MergeInput) (merged : AreMerged m) (r : Result T TantivyError) (a b : Directories) where
  passed : (refusal : Option TantivyError) → refusal ≡ None → Then {X = Unit {0}} (Passes refusal) (λ _. MergesLive m) r a b
      → MergesLive m r a b
  passed refusal none (stops e is (inl told, same)) = absurd (cc (sym none ∙ told))
  passed refusal none (stops e is (inr memory, same)) =
      subst (λ (x : Result T TantivyError). MergesLive m x a b) (sym (is ∙ ap (failing T) memory))
      (subst (λ (d : Directories). MergesLive {T = T} m (Err OutOfMemory) a d) (sym same) (starved m T a))
  passed refusal none (goes_on u n (told, same) merges) = subst (λ (d : Directories). MergesLive m r d b) same merges

  pub is_live_merge : MergesSegments m r a b → MergesLive m r a b
  is_live_merge h = passed h.refusal (one_only m m.segments h.refusal None h.is (merged_refusal m merged)) h.merges

pub merge_called : {T : Type 0} (called m : MergeInput) → called ≡ m → AreMerged m → (r : Result T TantivyError) (a b : Directories)
    → MergesSegments called r a b → MergesLive m r a b
merge_called called m same merged r a b h =
    is_live_merge m merged r a b (subst (λ (x : MergeInput). MergesSegments x r a b) same h)

-- what is told of it
pub merge_told : {T : Type 0} (f : T → Meta) (called m : MergeInput) → called ≡ m → (r : Result T TantivyError) (a b : Directories)
    → b.work.files ≡ a.work.files
    → IfOk r (λ x. (documents : ℕ) × (f x ≡ output_meta_of called documents))
    → (IsTrue a.work.tells → IfOk r (λ x. IsMergeOf called a.work.files (IsTrue a.output.tells) b.output.files (f x)))
    → (IsTrue a.output.tells → IfOk r (λ x. index.index_of segment_forms b.output.files ≡ Some (f x)))
    → IfOk r (λ x. IsMergedAs m a b (f x))
merge_told f called m same (Err e) a b stays counted merged index_of = tt
merge_told f called m same (Ok x) a b stays counted merged index_of =
    subst (λ (y : MergeInput). IsMergedAs y a b (f x)) same (record {
      counted = counted;
      merged = λ told.
          subst (λ (fs : NamedFiles). IsMergeOf called fs (IsTrue a.output.tells) b.output.files (f x)) (sym stays) (merged told);
      index_of = index_of;
    })

-- told of both directories as they were before the work index was filled
module _ (analyzer : Analyzer) (i : Input) (fits : Fits analyzer i) (a n : Directories) (filled : Filled analyzer i a n.work n.output) where
  told_before : (b : Directories) (meta : Meta) → IsMergedAs (merge_of analyzer i) n b meta → IsMergedAs (merge_of analyzer i) a b meta
  told_before b meta h = record {
    counted = h.counted;
    merged = λ told.
        let merge = h.merged (told_filled analyzer i fits a n.work n.output filled told) in
        record {
          opened = merge.opened;
          held = merge.held;
          counted = merge.counted;
          index_of = λ told_output. merge.index_of (output_told analyzer i fits a n.work n.output filled told_output);
          contents = merge.contents;
          joins = merge.joins;
          holds = λ told_output. merge.holds (output_told analyzer i fits a n.work n.output filled told_output);
          totals = λ told_output. merge.totals (output_told analyzer i fits a n.work n.output filled told_output);
        };
    index_of = λ told_output. h.index_of (output_told analyzer i fits a n.work n.output filled told_output);
  }

  pub is_built : {T : Type 0} (f : T → Meta) → IsReadBack (work_meta analyzer i) → (r : Result T TantivyError) (b : Directories)
      → IfOk r (λ x. IsMergedAs (merge_of analyzer i) n b (f x)) → IfOk r (λ x. IsBuilt analyzer i a b (f x))
  is_built f reads (Err e) b h = tt
  is_built f reads (Ok x) b h = record { work_read = reads; merged = told_before b (f x) h }
