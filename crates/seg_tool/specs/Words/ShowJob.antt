-- What `show` promises: it prints the work index in full.
use Rattle.std.specs.Prelude.{ℕ, ◌≡◌, ◌≢◌, List, [], codes, true, false, Some, Result, Ok, IsTrue}
use Rattle.seg_common.specs.FaultCounts.{Rose}
use Rattle.seg_values.specs.declared.error.TantivyError.{TantivyError}
use Rattle.seg_directory.specs.DirectoryStates.{DirectoryState}
use Rattle.seg_meta.specs.IndexOfFiles as index
use Rattle.seg_meta.specs.IndexOfFiles.{Meta}
use Rattle.seg_segment.specs.IndexForms.{segment_forms}
use Rattle.seg_index_build.specs.MergeAnswers.{IsWholeIndex}
use Rattle.seg_index_build.specs.TwoDirectories.{Directories, InWork}
use Rattle.seg_tool.specs.Job.{CrashLeaves, HasNoIndex, Job, JobDoes}
use Rattle.seg_tool.specs.PrintedIndex.{IsPrinted, PrintsIndex}
use Rattle.seg_tool.specs.declared.status.Status.{Status}
use Rattle.seg_tool.specs.declared.status.Status.TheVariants.{Exists}
use Rattle.seg_tool.specs.declared.words.Detail.TheVariants.{Full}

-- the work index is printed in full
abbrev pub ShowsText : Result (List ℕ) TantivyError → Directories → Directories → Type 0
ShowsText = InWork (PrintsIndex [] (codes "segment") Full)

-- it is the text that `show` makes, and where the work directory tells its files, that of the index that they have
pub record IsShownText (before after : Directories) (text : List ℕ) : Type 0 where
  pub shows : ShowsText (Ok text) before after
  pub told : IsTrue before.work.tells → IsPrinted [] (codes "segment") Full before.work.files text

-- where the work directory tells its files, the index that they have is whole
abbrev pub ShowHas : Directories → Directories → Type 0
ShowHas before after = IsTrue before.work.tells → (meta : Meta) × IsWholeIndex before.work.files meta

-- no file of the work directory changes, and nothing is done with the output directory
pub record ShowEnds (status : Status) (before after : Directories) : Type 0 where
  pub work_stays : after.work.files ≡ before.work.files
  pub output_unused : after.output ≡ before.output
  pub no_file : (e : TantivyError) → status ≢ Exists e

-- a directory that tells its files, which have an index of whole segments, and does not fail
pub record HasWholeIndex (before after : DirectoryState) : Type 0 where
  pub tells : IsTrue before.tells
  pub meta : Meta
  pub is_index : index.index_of segment_forms before.files ≡ Some meta
  pub whole : index.AreWhole segment_forms before.files meta
  pub sound : ¬ (Rose before.faults after.faults)

-- the work directory
abbrev pub ShowNeeds : Directories → Directories → Type 0
ShowNeeds before after = HasWholeIndex before.work after.work

-- all of it: it refuses nothing
abbrev pub show : Job
show = record {
  reads = false;
  IsNoInput = ⊥;
  Refuses = λ before after e. ⊥;
  Ends = ShowEnds;
  Makes = ShowsText;
  Does = JobDoes ShowsText;
  IsText = IsShownText;
  Has = ShowHas;
  Leaves = CrashLeaves HasNoIndex HasNoIndex;
  keeps_work = true;
  Needs = ShowNeeds;
}
