-- What the program promises of a word, and the forms in which words promise it.
use Rattle.std.specs.Prelude.{ℕ, ◌≡◌, List, Bool, Option, Result, Ok, Err, IsTrue}
use Rattle.std.specs.FinMap.{len}
use Rattle.std.specs.Io.KnownBytes.{Appends}
use Rattle.seg_common.specs.FaultCounts.{Rose}
use Rattle.seg_common.specs.Streams.{AppendsPart}
use Rattle.seg_values.specs.declared.error.TantivyError.{TantivyError}
use Rattle.seg_values.specs.declared.error.TantivyError.TheVariants.{OutOfMemory}
use Rattle.seg_directory.specs.Files.{NamedFiles}
use Rattle.seg_directory.specs.DirectoryStates.{DirectoryState, HasOnly, LeavesOnly}
use Rattle.seg_meta.specs.IndexOfFiles as index
use Rattle.seg_segment.specs.IndexForms.{segment_forms}
use Rattle.seg_index_build.specs.TwoDirectories.{Directories}
use Rattle.seg_tool.specs.Statuses.{status_of}
use Rattle.seg_tool.specs.declared.status.Status.{Status}
use Rattle.seg_tool.specs.declared.status.Status.TheVariants.{Done, Script, Refused, Exists, Directory, Damaged, Stream, Memory}

-- ---- a job

-- the promises of a word, of both directories as they are before and after
pub record Job : Type 1 where
  -- whether it reads the source
  pub reads : Bool
  -- what the source has, where it ends with Script
  pub IsNoInput : Type 0
  -- why it ends with Refused
  pub Refuses : Directories → Directories → TantivyError → Type 0
  -- with which status it ends, and what that leaves of both directories
  pub Ends : Status → Directories → Directories → Type 0
  -- the steps that make its text, or stop with an error
  pub Makes : Result (List ℕ) TantivyError → Directories → Directories → Type 0
  -- what it does with both directories in turn, by its status
  pub Does : Status → Directories → Directories → Type 0
  -- the text that it prints, and what both directories have, once it is done
  pub IsText : Directories → Directories → List ℕ → Type 0
  pub Has : Directories → Directories → Type 0
  -- what a crash leaves of an output that had nothing, at any moment and, by its status, at the end
  pub Leaves : Status → Directories → Directories → Type 0
  -- whether all that a crash may leave of the work directory stays
  pub keeps_work : Bool
  -- what must hold so that it ends well, where no stream fails
  pub Needs : Directories → Directories → Type 0

-- Script and Refused come by a cause of the word's own
abbrev pub IsCaused : Job → Status → Directories → Directories → Type 0
IsCaused job Script before after = job.IsNoInput
IsCaused job (Refused e) before after = job.Refuses before after e
IsCaused job _ before after = Unit {0}

-- a fact of a run that goes on once its source is read
abbrev pub IfReadOut : Status → Type 0 → Type 0
IfReadOut Done P = P
IfReadOut (Refused e) P = P
IfReadOut (Exists e) P = P
IfReadOut (Directory e) P = P
IfReadOut (Damaged e) P = P
IfReadOut _ P = Unit {0}

-- ---- what is gained

-- a text of some kind was appended
pub record Gains (IsText : List ℕ → Type 0) (old new : Option (List ℕ)) : Type 0 where
  pub text : List ℕ
  pub is_text : IsText text
  pub appended : Appends old new text

-- a front of a text of some kind was appended
pub record GainsPart (IsText : List ℕ → Type 0) (old new : Option (List ℕ)) : Type 0 where
  pub text : List ℕ
  pub is_text : IsText text
  pub appended : AppendsPart old new text

-- ---- what is done with both directories

-- it stops with an error, of which this is the status: Memory only of out of memory
pub record StopsAs (does : Result (List ℕ) TantivyError → Directories → Directories → Type 0) (status : Status)
    (before after : Directories) : Type 0 where
  pub error : TantivyError
  pub is_its : status ≡ status_of error
  pub starved : status ≡ Memory → error ≡ OutOfMemory
  pub stops : does (Err error) before after

-- it makes a text, which goes to the sink, or the sink fails; or it stops with an error
abbrev pub JobDoes : (Result (List ℕ) TantivyError → Directories → Directories → Type 0) → Status
    → Directories → Directories → Type 0
JobDoes does Done before after = (text : List ℕ) × does (Ok text) before after
JobDoes does Stream before after = (text : List ℕ) × does (Ok text) before after
JobDoes does status before after = StopsAs does status before after

-- ---- what a crash leaves

-- the files have no index
abbrev pub HasNoIndex : NamedFiles → Type 0
HasNoIndex files = index.OpensAsNoIndex segment_forms files

-- at any moment the output may be this, and once it is done it is that
pub record CrashLeaves (MayBe Is : NamedFiles → Type 0) (status : Status) (before after : Directories) : Type 0 where
  pub any_moment : LeavesOnly MayBe before.output.disk after.output.disk
  pub at_rest : status ≡ Done → HasOnly Is after.output.disk.now

-- ---- what ends well

-- a directory that tells its files, of which there is none, and does not fail
pub record IsReady (before after : DirectoryState) : Type 0 where
  pub tells : IsTrue before.tells
  pub empty : len before.files ≡ 0
  pub sound : ¬ (Rose before.faults after.faults)

-- and so both
pub record AreReady (before after : Directories) : Type 0 where
  pub work : IsReady before.work after.work
  pub output : IsReady before.output after.output
