-- What the building of an index from an input comes to.
use Rattle.std.specs.Prelude.{ℕ, ◌≡◌, ◌≢◌, ◌⊎◌, Some, None, Result, Ok, Err, IfSome, IsTrue}
use Rattle.std.specs.FinMap.{len}
use Rattle.std.specs.List.{AllByRecursion}
use Rattle.seg_common.specs.FaultCounts.{Rose}
use Rattle.seg_values.specs.declared.error.ArgumentCause.TheVariants.{Documents, Numbers}
use Rattle.seg_values.specs.declared.error.TantivyError.{TantivyError}
use Rattle.seg_values.specs.declared.error.TantivyError.TheVariants.{FieldNotFound, IndexAlreadyExists, InvalidArgument, IoError, OpenReadError, OpenWriteError, OutOfMemory, SystemError}
use Rattle.seg_directory.specs.DirectoryStates.{HasOnly, IsEmptyDisk, LeavesOnly}
use Rattle.seg_meta.specs.IndexOfFiles as index
use Rattle.seg_meta.specs.IndexOfFiles.{Meta}
use Rattle.seg_meta.specs.MetaMeaning.{meta_of}
use Rattle.seg_meta.specs.declared.index_meta.IndexMeta.{IndexMeta}
use Rattle.seg_model.specs.Fields.{Analyzer}
use Rattle.seg_model.specs.Input.{Input}
use Rattle.seg_model.specs.ValidInputs.{Known, input_refusal}
use Rattle.seg_segment.specs.IndexForms.{segment_forms}
use Rattle.seg_open.specs.Answers.{seen_as}
use Rattle.seg_open.specs.OpeningSteps.{IsNoDamage}
use Rattle.seg_check.specs.AdmittedInputs.{IsValidIf}
use Rattle.seg_model.specs.Refusals.{IfRefusal, batches_error, build_refusal}
use Rattle.seg_index_build.specs.FilesAfterCrash.{MayBeBuilt}
use Rattle.seg_index_build.specs.DirectoryCalls.{BuildsIndexes, merge_of}
use Rattle.seg_index_build.specs.IndexFiles.{IsOutputIndexOf, IsWorkIndexOf, merged_meta, output_id, output_meta, work_ids, work_meta, work_segments}
use Rattle.seg_index_build.specs.IndexTotals.{HasOutputTotals, HasWorkTotals}
use Rattle.seg_index_build.specs.MergeAnswers.{IsMergedAs}
use Rattle.seg_index_build.specs.MergedSegments.{IsReadBack}
use Rattle.seg_index_build.specs.OtherFiles.{KeepsOthers, LacksAlive, Stays}
use Rattle.seg_index_build.specs.TakenBatches.{HoldsTaken, gained}
use Rattle.seg_index_build.specs.TwoDirectories.{Directories}

-- both indexes are written, and the answer has this meta
pub record IsBuilt (analyzer : Analyzer) (input : Input) (before after : Directories) (meta : Meta) : Type 0 where
  pub work_read : IsReadBack (work_meta analyzer input)
  pub merged : IsMergedAs (merge_of analyzer input) before after meta

-- a work directory that tells its files has the index of the batches, the other that of the survivors, each with totals
pub record IsRead (analyzer : Analyzer) (input : Input) (meta : Meta) (before after : Directories) : Type 0 where
  pub was_empty : len before.work.files ≡ 0
  pub index : IsWorkIndexOf analyzer input after.work.files
  pub meta_is : meta ≡ output_meta analyzer input
  pub totals : HasWorkTotals analyzer input after.work.files
  pub unmarked : AllByRecursion (LacksAlive after.work.files) (work_segments analyzer input)
  pub output_index : IsTrue before.output.tells → IsOutputIndexOf analyzer input after.output.files
  pub output_totals : IsTrue before.output.tells → HasOutputTotals analyzer input after.output.files

-- an output directory that tells its files has an index with this meta
pub record IsMerged (meta : Meta) (before after : Directories) : Type 0 where
  pub was_empty : len before.output.files ≡ 0
  pub index_of : index.index_of segment_forms after.output.files ≡ Some meta

-- a crash at any moment leaves the output, where nothing was on its disk, as no index, as the empty one, or whole
abbrev pub LeavesBuilt : Analyzer → Input → Directories → Directories → Type 0
LeavesBuilt analyzer input before after =
    IsTrue before.work.tells → IsEmptyDisk before.output.disk
    → LeavesOnly (MayBeBuilt analyzer input) before.output.disk after.output.disk

-- both indexes are written
pub record Builds (known : Known) (analyzer : Analyzer) (input : Input) (meta : Meta)
    (before after : Directories) : Type 0 where
  pub admitted : input_refusal known analyzer input ≡ None
  pub valid : IsValidIf (IsTrue before.work.tells) known analyzer input
  pub counted : (documents : ℕ)
      × (meta ≡ merged_meta input.settings input.schema (work_ids input.ids) (output_id input.ids) documents)
  pub in_work : IsTrue before.work.tells → IsRead analyzer input meta before after
  pub in_output : IsTrue before.output.tells → IsMerged meta before after
  pub reads : IsTrue before.output.tells
      → HoldsTaken analyzer input (gained before.work.seen after.work.seen) after.output.files
  pub any_moment : LeavesBuilt analyzer input before after
  pub at_rest : IsTrue before.work.tells → IsEmptyDisk before.output.disk
      → HasOnly (IsOutputIndexOf analyzer input) after.output.disk.now

-- why the input is refused, or too many documents were read back, or numbers without a type
abbrev pub IsWhyUntold : Known → Analyzer → Input → TantivyError → Type 0
IsWhyUntold known analyzer input e =
    (build_refusal known analyzer input ≡ Some e) ⊎ ((e ≡ InvalidArgument Documents) ⊎ (e ≡ InvalidArgument Numbers))

-- a failed call of a directory was counted
abbrev pub RoseIn : Directories → Directories → Type 0
RoseIn before after = Rose before.work.faults after.work.faults ⊎ Rose before.output.faults after.output.faults

-- with which errors it ends: a call failed, and that was counted; or a refusal, a file that is there, damage, or out of
-- memory
abbrev pub IsBuildError : TantivyError → Directories → Directories → Type 0
IsBuildError OpenReadError before after = RoseIn before after
IsBuildError OpenWriteError before after = RoseIn before after
IsBuildError IoError before after = RoseIn before after
IsBuildError SystemError before after = ⊥
IsBuildError FieldNotFound before after = ⊥
IsBuildError _ before after = Unit {0}

-- directories without files, which they tell
pub record AreEmpty (state : Directories) : Type 0 where
  pub work_tells : IsTrue state.work.tells
  pub work : len state.work.files ≡ 0
  pub output_tells : IsTrue state.output.tells
  pub output : len state.output.files ≡ 0

-- nothing refuses an input, the directories tell that they have no file, and neither fails
pub record CanBeBuilt (known : Known) (analyzer : Analyzer) (input : Input) (before after : Directories) : Type 0 where
  pub unrefused : build_refusal known analyzer input ≡ None
  pub empty : AreEmpty before
  pub sound : ¬ (RoseIn before after)

-- or it ends with an error: the first refusal, or out of memory, before a directory is called; or after that
pub record StopsBuilding (known : Known) (analyzer : Analyzer) (input : Input) (e : TantivyError)
    (before after : Directories) : Type 0 where
  pub first : IfSome (input_refusal known analyzer input)
      (λ first. ((e ≡ first) ⊎ (e ≡ OutOfMemory)) × (after ≡ before))
  pub refused : IsTrue before.work.tells → IfRefusal (λ x. build_refusal known analyzer input ≡ Some x) e
  pub untold : IfRefusal (IsWhyUntold known analyzer input) e
  pub batch_refused : IfSome (batches_error input.schema analyzer 0 input.cuts input.operations)
      (λ _. Stays before.output after.output)
  pub fresh : AreEmpty before → e ≢ IndexAlreadyExists
  pub whole : IsTrue before.work.tells → IsNoDamage e
  pub errors : IsBuildError e before after
  pub complete : CanBeBuilt known analyzer input before after → e ≡ OutOfMemory
  pub any_moment : LeavesBuilt analyzer input before after

-- either of them
abbrev pub EndsBuilding : Known → Analyzer → Input → Result Meta TantivyError → Directories → Directories → Type 0
EndsBuilding known analyzer input (Ok meta) before after = Builds known analyzer input meta before after
EndsBuilding known analyzer input (Err e) before after = StopsBuilding known analyzer input e before after

-- what it comes to, which files stay, and what is done with both directories in turn
pub record BuildComesTo (known : Known) (analyzer : Analyzer) (input : Input) (result : Result IndexMeta TantivyError)
    (before after : Directories) : Type 0 where
  pub ends : EndsBuilding known analyzer input (seen_as (λ built. meta_of built) result) before after
  pub others : KeepsOthers analyzer input before after
  pub calls : BuildsIndexes known analyzer input result before after
