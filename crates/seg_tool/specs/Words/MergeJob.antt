-- What `merge` promises: it merges the segments of the work index into one of the output index, and prints that.
use Rattle.std.specs.Prelude.{ℕ, ◌≡◌, ◌≢◌, ◌⊎◌, ◌-◌, ◌<◌, ◌^◌, List, [], map, replicate, true, false, codes, Some, None, Result, Ok, Err, IsTrue, is_some}
use Rattle.std.specs.FinMap.{len}
use Rattle.std.specs.List.{AllByRecursion}
use Rattle.seg_common.specs.FaultCounts.{Rose}
use Rattle.seg_values.specs.declared.error.ArgumentCause.TheVariants.{Documents, Numbers}
use Rattle.seg_values.specs.declared.error.TantivyError.{TantivyError}
use Rattle.seg_values.specs.declared.error.TantivyError.TheVariants.{InvalidArgument, OutOfMemory}
use Rattle.seg_directory.specs.Files.{NamedFiles}
use Rattle.seg_directory.specs.DirectoryStates.{DirectoryState}
use Rattle.seg_meta.specs.IndexOfFiles as index
use Rattle.seg_meta.specs.IndexOfFiles.{Meta}
use Rattle.seg_meta.specs.MetaSteps.{LoadsMetas}
use Rattle.seg_meta.specs.Metas.{segment_of}
use Rattle.seg_meta.specs.MetaMeaning.{meta_of}
use Rattle.seg_meta.specs.declared.index_meta.IndexMeta.{IndexMeta}
use Rattle.seg_model.specs.Contents.{Contents, reading_part}
use Rattle.seg_model.specs.Fields.{Schema}
use Rattle.seg_model.specs.ValidInputs.{settings_fit}
use Rattle.seg_segment.specs.IndexForms.{segment_forms}
use Rattle.seg_segment.specs.FileContents.{Holds}
use Rattle.seg_segment.specs.SegmentFiles.{KeepsAllBut}
use Rattle.seg_open.specs.OpenSegment.{OpenSegment, kept_count}
use Rattle.seg_open.specs.OpeningSteps.{Asked}
use Rattle.seg_index_build.specs.FilesAfterCrash.{AreMergeOf, MayBeMerged}
use Rattle.seg_index_build.specs.MergeAnswers.{AllHaveHeld}
use Rattle.seg_index_build.specs.MergeOutcomes.{MergeComesTo}
use Rattle.seg_index_build.specs.MergedIndices.{listed_segments}
use Rattle.seg_index_build.specs.MergedSegments.{IsRefusal, MergeInput, is_live, joined, live_asked, live_documents, merge_input, output_meta_of}
use Rattle.seg_index_build.specs.OtherFiles.{merged_files}
use Rattle.seg_index_build.specs.TwoDirectories.{Directories, InOutput, InWork, Then}
use Rattle.seg_text.specs.SegmentText.{segment_text}
use Rattle.seg_tool.specs.Job.{CrashLeaves, HasNoIndex, IsReady, Job, JobDoes}
use Rattle.seg_tool.specs.PrintedIndex.{PrintsIndex}
use Rattle.seg_tool.specs.declared.status.Status.{Status}
use Rattle.seg_tool.specs.declared.status.Status.TheVariants.{Damaged, Exists}
use Rattle.seg_tool.specs.declared.words.Detail.TheVariants.{Brief}

-- ---- what is merged

-- the id of 32 digits f
abbrev pub last_id : ℕ
last_id = 2 ^ 128 - 1

-- the segments that a meta lists are merged with its settings and no filter
abbrev pub merge_of : IndexMeta → MergeInput
merge_of metas =
    merge_input (listed_segments metas) metas.index_settings (map (λ _. None) (listed_segments metas)) last_id

-- files that have an index, of which each segment with a live document by its meta is whole
pub record HasWholeLiveSegments (files : NamedFiles) : Type 0 where
  pub meta : Meta
  pub is_index : index.index_of segment_forms files ≡ Some meta
  pub whole : AllByRecursion (λ s. is_live s ≡ true → index.IsWhole segment_forms files meta.schema s) meta.segments

-- the segments of an index that are merged: those with a live document, with no filter
abbrev pub merged_of : Meta → List Asked
merged_of meta =
    live_asked (map (segment_of meta.schema) meta.segments)
    (map (λ _. None) (map (segment_of meta.schema) meta.segments))

-- ---- what is done

-- the segments that a meta lists are merged, unless memory runs out before that
abbrev pub MergesListed : IndexMeta → Result IndexMeta TantivyError → Directories → Directories → Type 0
MergesListed metas result before after =
    ((result ≡ Err OutOfMemory) × (after ≡ before)) ⊎ MergeComesTo (merge_of metas) result before after

-- the meta of the work index is read, and the segments that it lists are merged
abbrev pub MergesWork : Result IndexMeta TantivyError → Directories → Directories → Type 0
MergesWork = Then {X = IndexMeta} (InWork LoadsMetas) MergesListed

-- and then the output index is printed
abbrev pub MergesText : Result (List ℕ) TantivyError → Directories → Directories → Type 0
MergesText = Then {X = IndexMeta} MergesWork (λ _. InOutput (PrintsIndex [] (codes "output") Brief))

-- ---- the text

-- what segments join to is printed under the last id, with all its documents alive
abbrev pub joined_text : Schema → ℕ → Contents → List ℕ
joined_text schema documents contents = segment_text schema (record {
  label = codes "output";
  id = last_id;
  alive = replicate documents true;
  reading = reading_part contents;
})

-- the work files have an index that lists segments; those that have a live document were opened, and what they join to
-- is held by the one segment of the index that the output files have; this is its text
pub record IsJoined (work output : NamedFiles) (text : List ℕ) : Type 0 where
  pub metas : IndexMeta
  pub is_index : index.index_of segment_forms work ≡ Some (meta_of metas)
  pub some : metas.segments ≢ []
  pub opened : List OpenSegment
  pub held : AllHaveHeld work (live_asked (merge_of metas).segments (merge_of metas).filters) opened
  pub is_output : index.index_of segment_forms output ≡ Some (output_meta_of (merge_of metas) (kept_count opened))
  pub contents : Contents
  pub joins : joined metas.schema opened ≡ Some contents
  pub holds : Holds output last_id metas.schema contents
  pub printed : text ≡ joined_text metas.schema (kept_count opened) contents

-- it is the text that `merge` makes, and where both directories tell their files, that of what the work segments join
-- to
pub record IsMergedText (before after : Directories) (text : List ℕ) : Type 0 where
  pub merges : MergesText (Ok text) before after
  pub told : IsTrue before.work.tells → IsTrue before.output.tells → IsJoined before.work.files after.output.files text

-- where the work directory tells its files, each segment with a live document was whole
abbrev pub MergeHas : Directories → Directories → Type 0
MergeHas before after = IsTrue before.work.tells → HasWholeLiveSegments before.work.files

-- ---- how it ends

-- the segments that the work index lists are refused, or what is read of them has too many documents, or numbers
-- without a type
pub record RefusesMerge (before after : Directories) (e : TantivyError) : Type 0 where
  pub metas : IndexMeta
  pub is_index : IsTrue before.work.tells → index.index_of segment_forms before.work.files ≡ Some (meta_of metas)
  pub why : IsRefusal (merge_of metas) (listed_segments metas) (Some e)
      ⊎ ((e ≡ InvalidArgument Documents) ⊎ (e ≡ InvalidArgument Numbers))

-- no file of the work directory changes, and of the output none but the meta and those of the merged segment; an output
-- directory that tells and has no file is not told to have one; and whole segments are not told to be damaged
pub record MergeEnds (status : Status) (before after : Directories) : Type 0 where
  pub work_stays : after.work.files ≡ before.work.files
  pub others : KeepsAllBut (merged_files last_id) before.output.files after.output.files
  pub fresh : IsTrue before.output.tells → len before.output.files ≡ 0 → (e : TantivyError) → status ≢ Exists e
  pub whole : IsTrue before.work.tells → IsTrue before.output.tells → HasWholeLiveSegments before.work.files
      → (e : TantivyError) → status ≢ Damaged e

-- ---- what a crash leaves

-- the files have an index, and it is so of the merge of the segments that it lists
pub record OfMerge (IsSo : MergeInput → Type 0) (files : NamedFiles) : Type 0 where
  pub metas : IndexMeta
  pub is_index : index.index_of segment_forms files ≡ Some (meta_of metas)
  pub is_so : IsSo (merge_of metas)

-- no index, the empty one, or the merge of the segments that the work index lists
abbrev pub MayBeMergeOf : NamedFiles → NamedFiles → Type 0
MayBeMergeOf work files = HasNoIndex files ⊎ OfMerge (λ m. MayBeMerged m work files) work

-- the merge of the segments that the work index lists
abbrev pub IsMergeOfListed : NamedFiles → NamedFiles → Type 0
IsMergeOfListed work files = OfMerge (λ m. AreMergeOf m work files) work

-- at any moment, and at the end
abbrev pub MergeLeaves : Status → Directories → Directories → Type 0
MergeLeaves status before after =
    CrashLeaves (MayBeMergeOf before.work.files) (IsMergeOfListed before.work.files) status before after

-- ---- what ends well

-- a directory that tells its files, which have such an index, with settings that fit; it lists a segment, and fewer
-- than 2^31 live documents; what the files hold of those that are merged joins; and the directory does not fail
pub record HasMergeableIndex (before after : DirectoryState) : Type 0 where
  pub tells : IsTrue before.tells
  pub has : HasWholeLiveSegments before.files
  pub fit : settings_fit has.meta.settings ≡ true
  pub some : has.meta.segments ≢ []
  pub few : live_documents has.meta.segments < 2 ^ 31
  pub joins : (opened : List OpenSegment) → AllHaveHeld before.files (merged_of has.meta) opened
      → is_some (joined has.meta.schema opened) ≡ true
  pub sound : ¬ (Rose before.faults after.faults)

-- an index that can be merged, and an output directory that is ready
pub record MergeNeeds (before after : Directories) : Type 0 where
  pub can : HasMergeableIndex before.work after.work
  pub ready : IsReady before.output after.output

-- ---- all of it

abbrev pub merge : Job
merge = record {
  reads = false;
  IsNoInput = ⊥;
  Refuses = RefusesMerge;
  Ends = MergeEnds;
  Makes = MergesText;
  Does = JobDoes MergesText;
  IsText = IsMergedText;
  Has = MergeHas;
  Leaves = MergeLeaves;
  keeps_work = true;
  Needs = MergeNeeds;
}
