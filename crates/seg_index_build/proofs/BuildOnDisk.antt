-- What a crash may leave of the output of a build.
use Rattle.std.proofs.Common.{◌≡◌, ◌<◌, ◌^◌, ◌∙◌, inl, inr, length, map, IsTrue, Some, Result, Ok, sym, ap, subst}
use Rattle.std.specs.FinMap.{empty, get-empty}
use Rattle.seg_segment.proofs.Exports.{failing}
use Rattle.seg_common.specs.FileNameKeys.{name_cmp}
use Rattle.seg_common.specs.declared.name.FileName.TheVariants.{Meta}
use Rattle.seg_values.specs.declared.error.TantivyError.{TantivyError}
use Rattle.seg_directory.proofs.Exports.{leaves_only, passes_weaker, reads_only, settled_files_are_the_only_image, started, turns_on}
use Rattle.seg_directory.specs.Disk.{IsImage}
use Rattle.seg_directory.specs.DiskChanges.{Turns}
use Rattle.seg_directory.specs.FileDisks.{FileDisk, settled}
use Rattle.seg_directory.specs.Files.{NamedFiles}
use Rattle.seg_directory.specs.DirectoryStates.{DirectoryState, HasOnly, IsEmptyDisk, LeavesOnly}
use Rattle.seg_directory.specs.DirectorySteps.{Works}
use Rattle.seg_meta.specs.MetaBounds.{AreReadBack}
use Rattle.seg_meta.specs.IndexOfFiles as index
use Rattle.seg_model.specs.Contents.{full_reading}
use Rattle.seg_model.specs.Fields.{Schema, Analyzer}
use Rattle.seg_model.specs.Input.{Input, input_batches, input_survivors}
use Rattle.seg_model.specs.Laws.{AreReadingsOf, JoiningIsInvisible}
use Rattle.seg_segment.specs.IndexForms.{segment_forms}
use Rattle.seg_segment.specs.FileContents.{Holds}
use Rattle.seg_segment.specs.Laws.{HoldsOneContents}
use Rattle.seg_open.specs.OpenSegment.{kept_count, part_of}
use Rattle.seg_check.specs.AdmittedInputs.{Fits}
use Rattle.seg_index_build.specs.FilesAfterCrash.{AreMergeOf, MayBeBuilt, MayBeMerged}
use Rattle.seg_index_build.specs.BuildOutcomes.{LeavesBuilt}
use Rattle.seg_index_build.specs.DirectoryCalls.{BeginsIndexes, FillsWork, WritesIndexes, lists_none, merge_of}
use Rattle.seg_index_build.specs.IndexFiles.{IsOutputIndexOf, merged_meta, output_id, output_meta, work_ids}
use Rattle.seg_index_build.specs.MergeAnswers.{IsMergeOf}
use Rattle.seg_index_build.specs.MergedSegments.{MergesLive, first_schema, joined}
use Rattle.seg_index_build.specs.TwoDirectories.{Directories, goes_on, stops}
use Rattle.seg_index_build.proofs.WritingExits.{Filled, filled_so_far}
use Rattle.seg_index_build.proofs.MergeOnDisk.{merge_rests, merge_turns}
use Rattle.seg_index_build.proofs.WritingPlaces.{are_readings, told_filled}
use Rattle.seg_index_build.proofs.JoinedSurvivors.{kept_survivors, survivors_joined}
use Rattle.seg_index_build.proofs.WorkReadings.{live_batches}
use Rattle.seg_index_build.proofs.FilledWorkIndex.{work_merged_meta, work_schema}

-- files that are none have no index
no_index : (files : NamedFiles) → files ≡ empty → index.OpensAsNoIndex segment_forms files
no_index files same = subst (λ (f : NamedFiles). index.OpensAsNoIndex segment_forms f) (sym same) (get-empty name_cmp Meta)

-- ---- the merge of the work index is the output index

module _ (analyzer : Analyzer) (input : Input) (fits : Fits analyzer input) (a n : Directories) (filled : Filled analyzer input a n.work n.output)
    (told : IsTrue a.work.tells) (one : HoldsOneContents) (law : JoiningIsInvisible) where
  module _ (files : NamedFiles) (meta : index.Meta) (merge : IsMergeOf (merge_of analyzer input) n.work.files (Unit {0}) files meta) where
    readings_of : AreReadingsOf input.schema analyzer (live_batches (length input.operations) input.filters (input_batches analyzer input)) (map part_of merge.opened)
    readings_of = are_readings analyzer input fits a n.work n.output filled told one merge.opened merge.held

    meta_is : meta ≡ output_meta analyzer input
    meta_is =
        merge.counted ∙ work_merged_meta analyzer input fits (kept_count merge.opened)
        ∙ ap (merged_meta input.settings input.schema (work_ids input.ids) (output_id input.ids))
        (kept_survivors (length input.operations) analyzer input merge.opened fits.filters readings_of)

    survivors : full_reading input.schema analyzer (input_survivors analyzer input) ≡ Some merge.contents
    survivors =
        survivors_joined law (length input.operations) analyzer input merge.opened fits.filters readings_of
        ∙ sym (ap (λ (s : Schema). joined s merge.opened) (work_schema analyzer input fits)) ∙ merge.joins

    is_output : IsOutputIndexOf analyzer input files
    is_output = record {
      index_of = merge.index_of tt ∙ ap (λ (m : index.Meta). Some m) meta_is;
      stands = record {
        contents = merge.contents;
        read = survivors;
        held =
            subst (λ (s : Schema). Holds files (output_id input.ids) s merge.contents) (work_schema analyzer input fits)
            (merge.holds tt);
      };
    }

  of_merge : (files : NamedFiles) → AreMergeOf (merge_of analyzer input) n.work.files files → IsOutputIndexOf analyzer input files
  of_merge files (meta, merge) = is_output files meta merge

  of_merged : (files : NamedFiles) → MayBeMerged (merge_of analyzer input) n.work.files files → MayBeBuilt analyzer input files
  of_merged files (inl none) = inl none
  of_merged files (inr (inl begun)) =
      inr (inl (subst (λ (s : Schema). index.OpensAsEmpty segment_forms files input.settings s) (work_schema analyzer input fits) begun))
  of_merged files (inr (inr whole)) = inr (inr (of_merge files whole))

-- ---- the output before it is begun

module _ (a : Directories) (clean : IsEmptyDisk a.output.disk) where
  -- nothing is on the disk
  abbrev Still : DirectoryState → Type 0
  Still s = Turns (λ d. d ≡ settled empty) (λ d. d ≡ settled empty) a.output.disk s.disk

  at_first : Still a.output
  at_first = record { during = started a.output.disk; after = λ told. clean.none }

  listing : {T : Type 0} (r : Result T TantivyError) (s t : DirectoryState) → s ≡ a.output → Works lists_none r s t → Still t
  listing r s t same works =
      reads_only (λ d. d ≡ settled empty) lists_none r (tt, tt) clean.told clean.none
      (subst (λ (x : DirectoryState). Works lists_none r x t) same works)

  still_at : (s t : DirectoryState) → t ≡ s → Still s → Still t
  still_at s t same still = subst Still (sym same) still

  -- both directories are listed, and the work index is begun
  begins_still : {T : Type 0} (input : Input) (r : Result T TantivyError) (b : Directories) → BeginsIndexes input.settings input.schema r a b → Still b.output
  begins_still input r b (stops e is h) = still_at a.output b.output h.1 at_first
  begins_still input r b (goes_on u m h (stops e is k)) = listing (failing (Unit {0}) e) m.output b.output h.1 k.0
  begins_still input r b (goes_on u m h (goes_on v n k l)) = still_at n.output b.output l.1 (listing (Ok v) m.output n.output h.1 k.0)

-- ---- all of it

module _ (analyzer : Analyzer) (input : Input) (fits : Fits analyzer input) (reads : AreReadBack input.settings input.schema)
    (id_fits : output_id input.ids < 2 ^ 128) (one : HoldsOneContents) (law : JoiningIsInvisible)
    (a : Directories) (told : IsTrue a.work.tells) (clean : IsEmptyDisk a.output.disk) where
  abbrev May : FileDisk → Type 0
  May d = HasOnly (λ files. MayBeBuilt analyzer input files) d

  none_yet : (d : FileDisk) → d ≡ settled empty → May d
  none_yet d is files image =
      inl (no_index files (settled_files_are_the_only_image empty files (subst (λ (x : FileDisk). IsImage x files) is image)))

  nothing : (s : DirectoryState) → Still a clean s → Turns May May a.output.disk s.disk
  nothing s still = record { during = passes_weaker none_yet still.during; after = λ t. none_yet s.disk.now (still.after t) }

  reads_listed : AreReadBack (merge_of analyzer input).settings (first_schema (merge_of analyzer input).segments)
  reads_listed = subst (λ (s : Schema). AreReadBack input.settings s) (sym (work_schema analyzer input fits)) reads

  module _ (n : Directories) (filled : Filled analyzer input a n.work n.output) (still : Still a clean n.output) where
    clean_still : IsEmptyDisk n.output.disk
    clean_still = record { told = subst (λ t. IsTrue t) (sym still.during.told) clean.told; none = still.after clean.told }

    told_there : IsTrue n.work.tells
    told_there = told_filled analyzer input fits a n.work n.output filled told

    built : (d : FileDisk) → HasOnly (MayBeMerged (merge_of analyzer input) n.work.files) d → May d
    built d only files image = of_merged analyzer input fits a n filled told one law files (only files image)

    merging : {T : Type 0} (r : Result T TantivyError) (b : Directories) → MergesLive (merge_of analyzer input) r n b → Turns May May a.output.disk b.output.disk
    merging r b merges =
        let turns = merge_turns (merge_of analyzer input) reads_listed id_fits n told_there clean_still r b merges in
        turns_on clean.told (nothing n.output still) (λ _ _. record {
          during = passes_weaker built turns.during;
          after = λ t. built b.output.disk.now (turns.after t);
        })

    resting : {T : Type 0} (x : T) (b : Directories) → MergesLive (merge_of analyzer input) (Ok x) n b → HasOnly (IsOutputIndexOf analyzer input) b.output.disk.now
    resting x b merges files image =
        of_merge analyzer input fits a n filled told one law files
        (merge_rests (merge_of analyzer input) reads_listed id_fits n told_there clean_still x b merges files image)

  filled_at : (u v : Unit {0}) (m n : Directories) → BeginsIndexes input.settings input.schema (Ok u) a m → FillsWork analyzer input (Ok v) m.work n.work
      → n.output ≡ m.output → Filled analyzer input a n.work n.output
  filled_at u v m n begins fills same =
      subst (λ (s : DirectoryState). Filled analyzer input a n.work s) (sym same) (filled_so_far analyzer input u v a m.work m.output n.work begins fills)

  build_turns : {T : Type 0} (r : Result T TantivyError) (b : Directories) → WritesIndexes analyzer input r a b → Turns May May a.output.disk b.output.disk
  build_turns r b (stops e is h) = nothing b.output (begins_still a clean input (failing (Unit {0}) e) b h)
  build_turns r b (goes_on u m h (stops e is k)) =
      nothing b.output (still_at a clean m.output b.output k.1 (begins_still a clean input (Ok u) m h))
  build_turns r b (goes_on u m h (goes_on v n k merges)) =
      merging n (filled_at u v m n h k.0 k.1) (still_at a clean m.output n.output k.1 (begins_still a clean input (Ok u) m h)) r b merges

  -- a crash at any moment leaves no index, the empty one, or the output index
  pub build_leaves : {T : Type 0} (r : Result T TantivyError) (b : Directories) → WritesIndexes analyzer input r a b
      → LeavesOnly (MayBeBuilt analyzer input) a.output.disk b.output.disk
  build_leaves r b writes =
      let turns = build_turns r b writes in
      leaves_only (MayBeBuilt analyzer input) a.output.disk b.output.disk turns.during (turns.after clean.told)

  -- and at Ok the output index
  pub build_rests : {T : Type 0} (x : T) (b : Directories) → WritesIndexes analyzer input (Ok x) a b → HasOnly (IsOutputIndexOf analyzer input) b.output.disk.now
  build_rests x b (stops e is h) = absurd (cc is)
  build_rests x b (goes_on u m h (stops e is k)) = absurd (cc is)
  build_rests x b (goes_on u m h (goes_on v n k merges)) =
      resting n (filled_at u v m n h k.0 k.1) (still_at a clean m.output n.output k.1 (begins_still a clean input (Ok u) m h)) x b merges

-- before a directory is called
pub not_begun_leaves : (analyzer : Analyzer) (input : Input) (state : Directories) → LeavesBuilt analyzer input state state
not_begun_leaves analyzer input state told clean =
    leaves_only (MayBeBuilt analyzer input) state.output.disk state.output.disk (started state.output.disk)
    (λ files image. inl (no_index files (settled_files_are_the_only_image empty files (subst (λ (x : FileDisk). IsImage x files) clean.none image))))
