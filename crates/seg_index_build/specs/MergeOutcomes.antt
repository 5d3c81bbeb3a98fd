-- What a merge of segments, or of indices, comes to.
use Rattle.std.specs.Prelude.{ℕ, ◌≡◌, ◌≢◌, ◌⊎◌, List, Some, Result, Err, IfErr, IfOk, IsTrue, OnOk}
use Rattle.std.specs.FinMap.{len}
use Rattle.seg_values.specs.declared.error.TantivyError.{TantivyError}
use Rattle.seg_values.specs.declared.error.TantivyError.TheVariants.{IndexAlreadyExists, OutOfMemory}
use Rattle.seg_directory.specs.DirectoryStates.{HasOnly, IsEmptyDisk, LeavesOnly}
use Rattle.seg_meta.specs.IndexOfFiles as index
use Rattle.seg_meta.specs.MetaMeaning.{meta_of}
use Rattle.seg_meta.specs.declared.index_meta.IndexMeta.{IndexMeta}
use Rattle.seg_open.specs.Answers.{seen_as}
use Rattle.seg_open.specs.OpeningSteps.{IsNoDamage}
use Rattle.seg_segment.specs.IndexForms.{segment_forms}
use Rattle.seg_segment.specs.SegmentFiles.{KeepsAllBut}
use Rattle.seg_index_build.specs.FilesAfterCrash.{AreMergeOf, MayBeMerged}
use Rattle.seg_index_build.specs.IndexMergeAnswers as indices
use Rattle.seg_index_build.specs.IndexMergeAnswers.{AreMergeOfIndices, IsMergeOfIndices, MayBeMergedIndices, SourcesAreWhole}
use Rattle.seg_index_build.specs.MergeAnswers.{CanBeMerged, IsMergeError, IsMergeOf, IsWholeIndex, LiveAreWhole}
use Rattle.seg_index_build.specs.MergedIndices as merged
use Rattle.seg_index_build.specs.MergedIndices.{IsUnlike, MergesIndices, Places, indices_input}
use Rattle.seg_index_build.specs.MergedSegments.{IsRefusal, MergeInput, MergesSegments, output_meta_of}
use Rattle.seg_index_build.specs.OtherFiles.{merged_files}
use Rattle.seg_index_build.specs.Sources.{AllTell, files_of}
use Rattle.seg_index_build.specs.TwoDirectories.{Directories}

-- of segments: what is done with both directories, what the answer says, what the files are then, and how it ends
pub record MergeComesTo (m : MergeInput) (result : Result IndexMeta TantivyError) (before after : Directories)
    : Type 0 where
  pub does : MergesSegments m result before after
  pub meta : IfOk result (λ answer. (documents : ℕ) × (meta_of answer ≡ output_meta_of m documents))
  pub refused : (e : TantivyError) → IsRefusal m m.segments (Some e)
      → (result ≡ Err e) × (after.work ≡ before.work) × (after.output ≡ before.output)
  pub errors : IfErr result (IsMergeError m before after)
  pub output_meta : IsTrue before.output.tells
      → IfOk result (λ answer. index.index_of segment_forms after.output.files ≡ Some (meta_of answer))
  pub index : IsTrue before.work.tells → IfOk result
      (λ answer. IsMergeOf m before.work.files (IsTrue before.output.tells) after.output.files (meta_of answer))
  pub output_whole : IsTrue before.output.tells
      → IfOk result (λ answer. IsWholeIndex after.output.files (meta_of answer))
  pub work_stays : after.work.files ≡ before.work.files
  pub others : KeepsAllBut (merged_files m.id) before.output.files after.output.files
  pub undamaged : IsTrue before.work.tells → LiveAreWhole before.work.files m.segments → IfErr result IsNoDamage
  pub fresh : IsTrue before.output.tells → len before.output.files ≡ 0 → result ≢ Err IndexAlreadyExists
  pub complete : CanBeMerged m before after → IfErr result (λ e. e ≡ OutOfMemory)
  pub any_moment : IsTrue before.work.tells → IsEmptyDisk before.output.disk
      → LeavesOnly (MayBeMerged m before.work.files) before.output.disk after.output.disk
  pub at_rest : IsTrue before.work.tells → IsEmptyDisk before.output.disk
      → OnOk result (HasOnly (AreMergeOf m before.work.files) after.output.disk.now)

-- the same of indices, each with its directory
pub record IndexMergeComesTo (metas : List IndexMeta) (id : ℕ) (result : Result IndexMeta TantivyError)
    (before after : Places) : Type 0 where
  pub does : MergesIndices metas id (seen_as (λ answer. meta_of answer) result) before after
  pub meta : IfOk result (λ answer. (documents : ℕ)
      × (meta_of answer ≡ output_meta_of (indices_input metas id) documents))
  pub unlike : (e : TantivyError) → IsUnlike metas e
      → (result ≡ Err e) × (after.sources ≡ before.sources) × (after.output ≡ before.output)
  pub refused : (e : TantivyError) → merged.IsRefusal metas (indices_input metas id) e
      → ((result ≡ Err e) ⊎ (result ≡ Err OutOfMemory))
      × (after.sources ≡ before.sources) × (after.output ≡ before.output)
  pub errors : IfErr result (indices.IsMergeError metas id before after)
  pub output_meta : IsTrue before.output.tells
      → IfOk result (λ answer. index.index_of segment_forms after.output.files ≡ Some (meta_of answer))
  pub index : AllTell before.sources → IfOk result (λ answer. IsMergeOfIndices metas id (files_of before.sources)
      (IsTrue before.output.tells) after.output.files (meta_of answer))
  pub output_whole : IsTrue before.output.tells
      → IfOk result (λ answer. IsWholeIndex after.output.files (meta_of answer))
  pub sources_stay : files_of after.sources ≡ files_of before.sources
  pub others : KeepsAllBut (merged_files id) before.output.files after.output.files
  pub undamaged : AllTell before.sources → SourcesAreWhole (files_of before.sources) metas → IfErr result IsNoDamage
  pub fresh : IsTrue before.output.tells → len before.output.files ≡ 0 → result ≢ Err IndexAlreadyExists
  pub complete : indices.CanBeMerged metas id before after → IfErr result (λ e. e ≡ OutOfMemory)
  pub any_moment : AllTell before.sources → IsEmptyDisk before.output.disk
      → LeavesOnly (MayBeMergedIndices metas id (files_of before.sources)) before.output.disk after.output.disk
  pub at_rest : AllTell before.sources → IsEmptyDisk before.output.disk
      → OnOk result (HasOnly (AreMergeOfIndices metas id (files_of before.sources)) after.output.disk.now)
