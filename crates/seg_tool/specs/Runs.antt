-- What a run does, by its words and by how it ends.
use Rattle.std.specs.Prelude.{ℕ, ◌≡◌, ◌<◌, ◌≤◌, ◌+◌, List, length, Option, Some, None, Result, Ok, Err, IfSome, String}
use Rattle.std.specs.Io.KnownBytes.{Appends, IsAtEnd}
use Rattle.std.specs.declared.alloc.Global.{Global}
use Rattle.seg_common.specs.FaultCounts.{Rose}
use Rattle.seg_common.specs.IdleReads.{Idle, OnlyLastIsIdle}
use Rattle.seg_common.specs.Streams.{AppendsPart, IsAllOf, TakesAtMost}
use Rattle.seg_values.specs.declared.error.TantivyError.{TantivyError}
use Rattle.seg_model.specs.Fields.{Analyzer}
use Rattle.seg_model.specs.Input.{Input}
use Rattle.seg_model.specs.ValidInputs.{Known}
use Rattle.seg_index_build.specs.TwoDirectories.{Directories}
use Rattle.seg_script.specs.Script.{script}
use Rattle.seg_tool.specs.InputIndexes.{BuildsText}
use Rattle.seg_tool.specs.Statuses.{status_of}
use Rattle.seg_tool.specs.Words.{command_of, job_of}
use Rattle.seg_tool.specs.Words.BuildJob.{max_script}
use Rattle.seg_tool.specs.declared.status.Status.{Status}
use Rattle.seg_tool.specs.declared.status.Status.TheVariants.{Done, Words, Script, Stream, Memory}
use Rattle.seg_tool.specs.declared.words.Command.{Command}
use Rattle.seg_tool.specs.declared.words.Command.TheVariants.{Build}
use Rattle.seg_tool.specs.declared.words.Detail.{Detail}

-- ---- with statuses

-- a result, with the status of its error
abbrev pub with_status : {T : Type 0} → Result T TantivyError → Result T Status
with_status (Ok x) = Ok x
with_status (Err e) = Err (status_of e)

-- a text is made, or the status is that of an error
pub record WithStatus (does : Result (List ℕ) TantivyError → Directories → Directories → Type 0)
    (result : Result (List ℕ) Status) (before after : Directories) : Type 0 where
  pub answer : Result (List ℕ) TantivyError
  pub is : result ≡ with_status answer
  pub does_so : does answer before after

-- bytes are no script; memory ran out; or the text of their input is made
pub data BuildsScript (known : Known) (analyzer : Analyzer) (detail : Detail) (bytes : List ℕ)
    (result : Result (List ℕ) Status) (before after : Directories) : Type 0 where
  no_script : result ≡ Err Script → script bytes ≡ None → after ≡ before
      → BuildsScript known analyzer detail bytes result before after
  no_memory : result ≡ Err Memory → after ≡ before → BuildsScript known analyzer detail bytes result before after
  of_input : (meant : Input) → script bytes ≡ Some meant
      → WithStatus (BuildsText known analyzer meant detail) result before after
      → BuildsScript known analyzer detail bytes result before after

-- ---- all that a run touches

-- what is told of a source, and of a sink
pub record SourceState : Type 0 where
  pub left : Option (List ℕ)
  pub idle : Idle
  pub faults : ℕ

pub record SinkState : Type 0 where
  pub written : Option (List ℕ)
  pub faults : ℕ

-- and of all that a run touches
pub record World : Type 0 where
  pub source : SourceState
  pub sink : SinkState
  pub directories : Directories

-- these, one by one
abbrev pub source_state : Option (List ℕ) → Idle → ℕ → SourceState
source_state left idle faults = record { left = left; idle = idle; faults = faults }

abbrev pub sink_state : Option (List ℕ) → ℕ → SinkState
sink_state written faults = record { written = written; faults = faults }

abbrev pub world : SourceState → SinkState → Directories → World
world source sink directories = record { source = source; sink = sink; directories = directories }

-- bytes are taken, at most one more than a script has
pub record Takes (before after : SourceState) : Type 0 where
  pub taken : TakesAtMost (max_script + 1) before.left after.left
  pub turns : OnlyLastIsIdle before.idle after.idle
  pub later : before.faults ≤ after.faults

-- these are all that were left, and not too many
pub record TakesAll (bytes : List ℕ) (before after : SourceState) : Type 0 where
  pub takes : Takes before after
  pub all : IsAllOf before.left bytes
  pub short : length bytes ≤ max_script
  pub end : IsAtEnd after.left

-- a text is written whole, or the sink fails
pub data WritesText (text : List ℕ) (status : Status) (before after : SinkState) : Type 0 where
  written : status ≡ Done → Appends before.written after.written text → before.faults ≤ after.faults
      → WritesText text status before after
  failed : status ≡ Stream → AppendsPart before.written after.written text → Rose before.faults after.faults
      → before.faults ≤ after.faults → WritesText text status before after

-- what was made is written, or the status is that of its error, and nothing goes to the sink
pub data WritesMade {K : Type 0} (made : Result (List ℕ) TantivyError) (status : Status) (sink sink_after : K)
    (before after : SinkState) : Type 0 where
  made_none : (e : TantivyError) → made ≡ Err e → status ≡ status_of e → sink_after ≡ sink → after ≡ before
      → WritesMade made status sink sink_after before after
  made_text : (text : List ℕ) → made ≡ Ok text → WritesText text status before after
      → WritesMade made status sink sink_after before after

-- a text is made and written, or there is none, and nothing goes to the sink
pub data EndsJob {K : Type 0} (does : Result (List ℕ) Status → Directories → Directories → Type 0) (status : Status)
    (sink sink_after : K) (before after : World) : Type 0 where
  no_text : does (Err status) before.directories after.directories → sink_after ≡ sink → after.sink ≡ before.sink
      → EndsJob does status sink sink_after before after
  has_text : (text : List ℕ) → does (Ok text) before.directories after.directories
      → WritesText text status before.sink after.sink
      → EndsJob does status sink sink_after before after

-- the source fails, has too many bytes, or memory runs out; or all its bytes are read, and the job ends with them
pub data RunsBuild {K : Type 0} (known : Known) (analyzer : Analyzer) (detail : Detail) (status : Status)
    (sink sink_after : K) (before after : World) : Type 0 where
  not_read : status ≡ Stream → Rose before.source.faults after.source.faults → Takes before.source after.source
      → sink_after ≡ sink → after.sink ≡ before.sink → after.directories ≡ before.directories
      → RunsBuild known analyzer detail status sink sink_after before after
  too_long : status ≡ Script → IfSome before.source.left (λ all. max_script < length all)
      → Takes before.source after.source
      → sink_after ≡ sink → after.sink ≡ before.sink → after.directories ≡ before.directories
      → RunsBuild known analyzer detail status sink sink_after before after
  starved : status ≡ Memory → Takes before.source after.source
      → sink_after ≡ sink → after.sink ≡ before.sink → after.directories ≡ before.directories
      → RunsBuild known analyzer detail status sink sink_after before after
  is_read : (bytes : List ℕ) → TakesAll bytes before.source after.source
      → EndsJob (BuildsScript known analyzer detail bytes) status sink sink_after before after
      → RunsBuild known analyzer detail status sink sink_after before after

-- words that are no command touch nothing
pub record TouchesNothing {S K : Type 0} (status : Status) (source source_after : S) (sink sink_after : K)
    (before after : World) : Type 0 where
  pub is : status ≡ Words
  pub same_source : source_after ≡ source
  pub same_sink : sink_after ≡ sink
  pub same : after ≡ before

-- a job that reads no source
pub record RunsUnread {S K : Type 0} (does : Result (List ℕ) Status → Directories → Directories → Type 0)
    (status : Status) (source source_after : S) (sink sink_after : K) (before after : World) : Type 0 where
  pub same_source : source_after ≡ source
  pub same : after.source ≡ before.source
  pub ends : EndsJob does status sink sink_after before after

-- by the command: all but `build` read no source
abbrev pub RunsCommand : {S K : Type 0} → Known → Analyzer → Option Command → Status → S → S → K → K → World → World
    → Type 0
RunsCommand known analyzer None status source source_after sink sink_after before after =
    TouchesNothing status source source_after sink sink_after before after
RunsCommand known analyzer (Some (Build detail)) status source source_after sink sink_after before after =
    RunsBuild known analyzer detail status sink sink_after before after
RunsCommand known analyzer (Some command) status source source_after sink sink_after before after =
    RunsUnread (WithStatus (job_of known analyzer before.source.left (Some command)).Makes)
    status source source_after sink sink_after before after

-- by the words
pub record Runs {S K : Type 0} (known : Known) (analyzer : Analyzer) (words : List (String Global)) (status : Status)
    (source source_after : S) (sink sink_after : K) (before after : World) : Type 0 where
  pub runs : RunsCommand known analyzer (command_of words) status source source_after sink sink_after before after
