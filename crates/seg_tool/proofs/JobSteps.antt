-- The merge of the segments that an index lists, step by step.
use Rattle.std.proofs.Common.{◌≡◌, ◌≢◌, ◌∙◌, ℕ, List, [], ◌∷◌, map, Option, None, Some, Result, Ok, Err, IfErr, IfOk, IsTrue, OnOk, refl, sym, ap, subst, inl, inr}
use Rattle.std.specs.FinMap.{len}
use Rattle.std.specs.List.{AllByRecursion}
use Rattle.seg_index_build.specs.MergedIndices.{listed_segments}
use Rattle.seg_values.specs.declared.error.ArgumentCause.TheVariants.{NoSegments}
use Rattle.seg_values.specs.declared.error.TantivyError.{TantivyError}
use Rattle.seg_values.specs.declared.error.TantivyError.TheVariants.{IndexAlreadyExists, InvalidArgument, OutOfMemory}
use Rattle.seg_meta.specs.IndexOfFiles.{ListedSegment}
use Rattle.seg_meta.specs.MetaMeaning.{meta_of}
use Rattle.seg_meta.specs.Metas.{SegmentParts, segment_of}
use Rattle.seg_meta.specs.declared.index_meta.IndexMeta.{IndexMeta}
use Rattle.seg_meta.specs.declared.index_settings.IndexSettings.{IndexSettings}
use Rattle.seg_model.specs.Input.{Filter}
use Rattle.seg_directory.specs.DirectoryStates.{HasOnly, IsEmptyDisk, LeavesOnly}
use Rattle.seg_segment.specs.SegmentFiles.{KeepsAllBut}
use Rattle.seg_open.specs.OpeningSteps.{IsNoDamage}
use Rattle.seg_index_build.specs.FilesAfterCrash.{AreMergeOf, MayBeMerged}
use Rattle.seg_index_build.specs.MergeAnswers.{CanBeMerged, IsMergeError, IsMergeOf, IsWholeIndex, LiveAreWhole}
use Rattle.seg_index_build.specs.MergeOutcomes.{MergeComesTo}
use Rattle.seg_index_build.specs.OtherFiles.{merged_files}
use Rattle.seg_index_build.specs.MergedSegments.{AreOfOne, IsRefusal, MergeInput, MergesSegments, merge_input, one_refusal}
use Rattle.seg_index_build.specs.TwoDirectories.{Directories, stops}
use Rattle.seg_tool.specs.Words.MergeJob.{MergesListed, last_id, merge_of}
use Rattle.seg_tool.proofs.OutputOnDisk.{empty_still}

-- what a merge comes to, whether or not memory runs out before it
pub record Merges (m : MergeInput) (result : Result IndexMeta TantivyError) (before after : Directories) : Type 0 where
  pub does : MergesSegments m result before after
  pub errors : IfErr result (IsMergeError m before after)
  pub is_merge : IsTrue before.work.tells → IfOk result
      (λ merged. IsMergeOf m before.work.files (IsTrue before.output.tells) after.output.files (meta_of merged))
  pub work_stays : after.work.files ≡ before.work.files
  pub others : KeepsAllBut (merged_files m.id) before.output.files after.output.files
  pub undamaged : IsTrue before.work.tells → LiveAreWhole before.work.files m.segments → IfErr result IsNoDamage
  pub output_whole : IsTrue before.output.tells → IfOk result (λ merged. IsWholeIndex after.output.files (meta_of merged))
  pub fresh : IsTrue before.output.tells → len before.output.files ≡ 0 → result ≢ Err IndexAlreadyExists
  pub complete : CanBeMerged m before after → IfErr result (λ e. e ≡ OutOfMemory)
  pub any_moment : IsTrue before.work.tells → IsEmptyDisk before.output.disk
      → LeavesOnly (MayBeMerged m before.work.files) before.output.disk after.output.disk
  pub at_rest : IsTrue before.work.tells → IsEmptyDisk before.output.disk
      → OnOk result (HasOnly (AreMergeOf m before.work.files) after.output.disk.now)

module _ (metas : IndexMeta) where
  of_one : (listed : List ListedSegment) → AllByRecursion (λ (s : SegmentParts). s.schema ≡ metas.schema) (map (segment_of metas.schema) listed)
  of_one [] = tt
  of_one (l ∷ listed) = (refl, of_one listed)

  -- why they are refused, if so
  record Refusal (m : MergeInput) (segments : List SegmentParts) : Type 0 where
    pub refusal : Option TantivyError
    pub is : IsRefusal m segments refusal

  some_refusal : (m : MergeInput) (listed : List ListedSegment) → m.segments ≡ map (segment_of metas.schema) listed → Refusal m (map (segment_of metas.schema) listed)
  some_refusal m [] is = record { refusal = Some (InvalidArgument NoSegments); is = refl }
  some_refusal m (l ∷ listed) is = record {
    refusal = one_refusal m;
    is = inr (subst (λ (segments : List SegmentParts). AreOfOne segments) (sym is) (of_one (l ∷ listed)), refl);
  }

  -- there is no memory before
  merge_starves : (a : Directories) → Merges (merge_of metas) (Err OutOfMemory) a a
  merge_starves a =
      let r = some_refusal (merge_of metas) metas.segments refl in
      record {
        does = record { refusal = r.refusal; is = r.is; merges = stops OutOfMemory refl (inr refl, refl) };
        errors = tt;
        is_merge = λ told. tt;
        work_stays = refl;
        others = λ other none. refl;
        undamaged = λ told whole. tt;
        output_whole = λ told. tt;
        fresh = λ told none is. cc is;
        complete = λ can. refl;
        any_moment = λ told clean. empty_still (MayBeMerged (merge_of metas) a.work.files) (λ files none. inl none) a.output.disk clean;
        at_rest = λ told clean. tt;
      }

  pub merges_listed : (r : Result IndexMeta TantivyError) (a b : Directories) → MergesListed metas r a b
      → Merges (merge_of metas) r a b
  merges_listed r a b (inl starved) =
      subst (λ (x : Result IndexMeta TantivyError). Merges (merge_of metas) x a b) (sym starved.0)
      (subst (λ (d : Directories). Merges (merge_of metas) (Err OutOfMemory) a d) (sym starved.1) (merge_starves a))
  merges_listed r a b (inr m) = record {
    does = m.does;
    errors = m.errors;
    is_merge = m.index;
    work_stays = m.work_stays;
    others = m.others;
    undamaged = m.undamaged;
    output_whole = m.output_whole;
    fresh = m.fresh;
    complete = m.complete;
    any_moment = m.any_moment;
    at_rest = m.at_rest;
  }

  -- what is handed to the merge
  pub merge_is : (segments : List SegmentParts) (settings : IndexSettings) (filters : List (Option Filter)) (id : ℕ) (r : Result IndexMeta TantivyError) (a b : Directories)
      → segments ≡ listed_segments metas → settings ≡ metas.index_settings → filters ≡ map (λ _. None) segments → id ≡ last_id
      → MergeComesTo (merge_input segments settings filters id) r a b → MergesListed metas r a b
  merge_is segments settings filters id r a b is set none last merges =
      inr (subst (λ (m : MergeInput). MergeComesTo m r a b)
      (ap (λ (i : ℕ). merge_input segments settings filters i) last
      ∙ ap (λ (fs : List (Option Filter)). merge_input segments settings fs last_id) none
      ∙ ap (λ (l : List SegmentParts). merge_input l settings (map (λ _. None) l) last_id) is
      ∙ ap (λ (s : IndexSettings). merge_input (listed_segments metas) s (map (λ _. None) (listed_segments metas)) last_id) set)
      merges)
