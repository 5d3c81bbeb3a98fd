-- All that is promised of a run, by how its job ends.
use Rattle.std.proofs.Common.{◌≡◌, ◌≢◌, ◌≤◌, ◌+◌, ◌∙◌, ℕ, List, [], true, false, Result, Ok, Err, IsTrue, sym, ap, subst, inl, inr, arith}
use Rattle.std.specs.Prelude.{◌⊎◌}
use Rattle.std.specs.Io.KnownBytes.{IsAtEnd}
use Rattle.std.proofs.KnownBytes.{Consumes-nil}
use Rattle.seg_common.specs.FaultCounts.{Rose}
use Rattle.seg_common.specs.IdleReads.{OnlyLastIsIdle}
use Rattle.seg_common.specs.Streams.{TakesAtMost}
use Rattle.seg_values.specs.declared.error.TantivyError.{TantivyError}
use Rattle.seg_directory.specs.DirectoryStates.{IsEmptyDisk}
use Rattle.seg_index_build.specs.TwoDirectories.{Directories}
use Rattle.seg_tool.specs.Job.{Gains, GainsPart, IfReadOut, IsCaused, Job}
use Rattle.seg_tool.specs.Runs.{EndsJob, SinkState, SourceState, WithStatus, World, WritesText, failed, has_text, no_text, written}
use Rattle.seg_tool.specs.Statuses.{status_of}
use Rattle.seg_tool.specs.Words.BuildJob.{max_script}
use Rattle.seg_tool.specs.declared.status.Status.{Status}
use Rattle.seg_tool.specs.declared.status.Status.TheVariants.{Done, Memory, Stream, Words}
use Rattle.seg_tool.proofs.StatusLaws.{IsErrorOf, IsOfError, answer_of, error_of, is_error, of_error}
use Rattle.seg_tool.proofs.WorkOnDisk.{Kept}

-- ---- what is shown of each word

-- what is so of both directories, with a status
pub record AtStatus (job : Job) (status : Status) (a b : Directories) : Type 0 where
  pub caused : IsCaused job status a b
  pub ends : job.Ends status a b
  pub does : job.Does status a b
  pub leaves : IsTrue a.work.tells → IsEmptyDisk a.output.disk → job.Leaves status a b
  pub keeps : job.keeps_work ≡ true → Kept a.work b.work

-- and so by what was done
pub record Laws (job : Job) (does : Result (List ℕ) TantivyError → Directories → Directories → Type 0)
    (a b : Directories) : Type 0 where
  pub error : (e : TantivyError) → does (Err e) a b → AtStatus job (status_of e) a b
  pub starves : (e : TantivyError) → does (Err e) a b → job.Needs a b → status_of e ≡ Memory
  pub done : (text : List ℕ) → does (Ok text) a b → AtStatus job Done a b
  pub stream : (text : List ℕ) → does (Ok text) a b → AtStatus job Stream a b
  pub is_text : (text : List ℕ) → does (Ok text) a b → job.IsText a b text
  pub has : (text : List ℕ) → does (Ok text) a b → job.Has a b

-- what is taken of the source
pub record Takings {S : Type 0} (job : Job) (status : Status) (source source_after : S) (a b : World) : Type 0 where
  pub taken : TakesAtMost (max_script + 1) a.source.left b.source.left
  pub turns : OnlyLastIsIdle a.source.idle b.source.idle
  pub later : a.source.faults ≤ b.source.faults
  pub end : job.reads ≡ true → IfReadOut status (IsAtEnd b.source.left)
  pub unread : job.reads ≡ false → source_after ≡ source

-- ---- what is promised

pub record Promises {S K : Type 0} (job : Job) (status : Status) (source source_after : S) (sink sink_after : K)
    (a b : World) : Type 0 where
  pub at : AtStatus job status a.directories b.directories
  pub takings : Takings job status source source_after a b
  pub done : status ≡ Done → Gains (job.IsText a.directories b.directories) a.sink.written b.sink.written
  pub has : status ≡ Done → job.Has a.directories b.directories
  pub untouched : status ≢ Done → status ≢ Stream → sink_after ≡ sink
  pub stream : status ≡ Stream
      → ((job.reads ≡ true) × Rose a.source.faults b.source.faults × (sink_after ≡ sink)
      × (b.directories ≡ a.directories))
      ⊎ (Rose a.sink.faults b.sink.faults
      × GainsPart (job.IsText a.directories b.directories) a.sink.written b.sink.written)
  pub complete : job.Needs a.directories b.directories → ¬ (Rose a.source.faults b.source.faults)
      → ¬ (Rose a.sink.faults b.sink.faults) → (status ≡ Done) ⊎ (status ≡ Memory)
  pub sink_later : a.sink.faults ≤ b.sink.faults

-- a sink that is as before
pub same_count : (a b : World) → b.sink ≡ a.sink → a.sink.faults ≤ b.sink.faults
same_count a b same = omega (arith, ap (λ (s : SinkState). s.faults) same)

-- the status of an error is neither of these
pub not_done : (status : Status) (e : TantivyError) → status ≡ status_of e → status ≡ Done → ⊥
not_done status e is at = subst IsOfError (sym is ∙ at) (of_error e)

pub not_stream : (status : Status) (e : TantivyError) → status ≡ status_of e → status ≡ Stream → ⊥
not_stream status e is at = subst IsOfError (sym is ∙ at) (of_error e)

-- ---- a job that was begun

module _ {S K : Type 0} (job : Job) (does : Result (List ℕ) TantivyError → Directories → Directories → Type 0) (status : Status)
    (source source_after : S) (sink sink_after : K) (a b : World) (laws : Laws job does a.directories b.directories)
    (takings : Takings job status source source_after a b) where
  abbrev All : Type 0
  All = Promises job status source source_after sink sink_after a b

  at_status : (s : Status) → status ≡ s → AtStatus job s a.directories b.directories → AtStatus job status a.directories b.directories
  at_status s is at = subst (λ (t : Status). AtStatus job t a.directories b.directories) (sym is) at

  of_failure : (e : TantivyError) → status ≡ status_of e → does (Err e) a.directories b.directories → sink_after ≡ sink
      → b.sink ≡ a.sink → All
  of_failure e is h same_sink same = record {
    at = at_status (status_of e) is (laws.error e h);
    takings = takings;
    done = λ at. absurd (not_done status e is at);
    has = λ at. absurd (not_done status e is at);
    untouched = λ done stream. same_sink;
    stream = λ at. absurd (not_stream status e is at);
    complete = λ needs sound sink_sound. inr (is ∙ laws.starves e h needs);
    sink_later = same_count a b same;
  }

  of_text : (text : List ℕ) → does (Ok text) a.directories b.directories → WritesText text status a.sink b.sink → All
  of_text text h (written is appends later) = record {
    at = at_status Done is (laws.done text h);
    takings = takings;
    done = λ at. record { text = text; is_text = laws.is_text text h; appended = appends };
    has = λ at. laws.has text h;
    untouched = λ done stream. absurd (done is);
    stream = λ at. absurd (cc (sym is ∙ at));
    complete = λ needs sound sink_sound. inl is;
    sink_later = later;
  }
  of_text text h (failed is part rose later) = record {
    at = at_status Stream is (laws.stream text h);
    takings = takings;
    done = λ at. absurd (cc (sym is ∙ at));
    has = λ at. absurd (cc (sym is ∙ at));
    untouched = λ done stream. absurd (stream is);
    stream = λ at. inr (rose, record { text = text; is_text = laws.is_text text h; appended = part });
    complete = λ needs sound sink_sound. absurd (sink_sound rose);
    sink_later = later;
  }

  pub of_job : EndsJob (WithStatus does) status sink sink_after a b → All
  of_job (has_text text w writes) =
      of_text text (subst (λ (r : Result (List ℕ) TantivyError). does r a.directories b.directories) (answer_of text w.answer w.is) w.does_so)
      writes
  of_job (no_text w same_sink same) = by (error_of status w.answer w.is)
    where
      by : IsErrorOf status w.answer → All
      by (is_error e is told) =
          of_failure e told (subst (λ (r : Result (List ℕ) TantivyError). does r a.directories b.directories) is w.does_so) same_sink same

-- words that are no command have no job
pub no_words : {K : Type 0} (does : Result (List ℕ) TantivyError → Directories → Directories → Type 0) (status : Status) (sink sink_after : K) (a b : World)
    → EndsJob (WithStatus does) status sink sink_after a b → status ≡ Words → ⊥
no_words does status sink sink_after a b (has_text text w (written is appends later)) at = cc (sym is ∙ at)
no_words does status sink sink_after a b (has_text text w (failed is part rose later)) at = cc (sym is ∙ at)
no_words does status sink sink_after a b (no_text w same_sink same) at = by (error_of status w.answer w.is)
  where
    by : IsErrorOf status w.answer → ⊥
    by (is_error e is told) = subst IsOfError (sym told ∙ at) (of_error e)

-- ---- a source that isn't read

module _ {S : Type 0} (job : Job) (status : Status) (source source_after : S) (a b : World) where
  pub none_taken : job.reads ≡ false → source_after ≡ source → b.source ≡ a.source → Takings job status source source_after a b
  none_taken unread same_source same = record {
    taken =
        subst (λ (s : SourceState). TakesAtMost (max_script + 1) a.source.left s.left) (sym same)
        ([], omega arith, Consumes-nil a.source.left);
    turns = subst (λ (s : SourceState). OnlyLastIsIdle a.source.idle s.idle) (sym same) (inl (omega arith));
    later = omega (arith, ap (λ (s : SourceState). s.faults) same);
    end = λ reads. absurd (cc (sym unread ∙ reads));
    unread = λ _. same_source;
  }
