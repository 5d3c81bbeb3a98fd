-- What `build` promises is so.
use Rattle.std.proofs.Common.{◌≡◌, ◌<◌, ◌≤◌, ◌⊎◌, ◌∙◌, ℕ, List, length, Option, None, Some, Result, Ok, Err, IsTrue, refl, sym, ap, subst, inl, inr, arith}
use Rattle.std.specs.Prelude.{IfSome}
use Rattle.std.specs.Option.{option_and_then}
use Rattle.std.proofs.lemmas.Option.{same_Some}
use Rattle.std.specs.Io.KnownBytes.{IsAtEnd}
use Rattle.seg_common.specs.FaultCounts.{Rose}
use Rattle.seg_common.specs.Streams.{IsAllOf}
use Rattle.seg_values.specs.declared.error.TantivyError.{TantivyError}
use Rattle.seg_directory.specs.Files.{NamedFiles}
use Rattle.seg_directory.specs.DirectoryStates.{HasOnly, IsEmptyDisk}
use Rattle.seg_model.specs.Fields.{Analyzer}
use Rattle.seg_model.specs.Input.{Input}
use Rattle.seg_model.specs.Laws.{ValidInputsAreNotRefused}
use Rattle.seg_model.specs.ValidInputs.{IsValid, Known}
use Rattle.seg_segment.specs.Laws.{HoldsOneContents}
use Rattle.seg_index_build.specs.TwoDirectories.{Directories}
use Rattle.seg_script.specs.Script.{script}
use Rattle.seg_tool.specs.InputIndexes.{BuildsText, RefusesInput}
use Rattle.seg_tool.specs.Job.{HasNoIndex, IfReadOut, IsCaused, JobDoes}
use Rattle.seg_tool.specs.Runs.{BuildsScript, EndsJob, RunsBuild, Takes, TakesAll, WithStatus, World, failed, has_text, is_read, no_memory, no_script, no_text, not_read, of_input, starved, too_long, written}
use Rattle.seg_tool.specs.Statuses.{status_of}
use Rattle.seg_tool.specs.Words.BuildJob.{BuildDoes, BuildLeaves, BuildNeeds, BuildsMeant, IsBuiltOf, IsMeantBy, IsNoScript, IsUnread, MayBeBuiltOf, OfMeant, build, max_script, of_meant, unread}
use Rattle.seg_tool.specs.declared.status.Status.{Status}
use Rattle.seg_tool.specs.declared.status.Status.TheVariants.{Done, Words, Script, Refused, Exists, Directory, Damaged, Stream, Memory}
use Rattle.seg_tool.specs.declared.words.Detail.{Detail}
use Rattle.seg_tool.proofs.BuildLaws.{Printed, not_printed, printed}
use Rattle.seg_tool.proofs.JobsOnDisk.{builds_leave, builds_rest}
use Rattle.seg_tool.proofs.OfInput.{done_ends, error_ends, error_memory, error_refuses, error_starves, has_indexes, is_text_of, stream_ends}
use Rattle.seg_tool.proofs.OutputOnDisk.{still_empty}
use Rattle.seg_tool.proofs.Promised.{AtStatus, Laws, Promises, Takings, no_words, not_done, of_job, same_count}
use Rattle.seg_tool.proofs.StatusLaws.{IsOfError, caused_as, job_as, of_error, read_out, refusal_then}

-- ---- what is left of the source

-- a fact of all bytes that were left
of_all : (left : Option (List ℕ)) (bytes : List ℕ) (P : List ℕ → Type 0) → IsAllOf left bytes → P bytes → IfSome left P
of_all None bytes P all p = tt
of_all (Some xs) bytes P all p = subst P all p

too_many : (left : Option (List ℕ)) → IfSome left (λ all. max_script < length all) → IfSome left IsNoScript
too_many None more = tt
too_many (Some all) more = inr more

-- what is meant by it
abbrev meant_by : Option (List ℕ) → Option Input
meant_by left = option_and_then script left

by_script : (left : Option (List ℕ)) → IfSome left (λ bytes. script bytes ≡ meant_by left)
by_script None = tt
by_script (Some bytes) = refl

none_may : (analyzer : Analyzer) (meant : Option Input) (files : NamedFiles) → HasNoIndex files → MayBeBuiltOf analyzer meant files
none_may analyzer None files none = none
none_may analyzer (Some input) files none = inl none

-- a source that is known
at_left : (P : List ℕ → Type 0) (left : Option (List ℕ)) (bytes : List ℕ) → left ≡ Some bytes → IfSome left P → P bytes
at_left P left bytes is p = subst (λ (o : Option (List ℕ)). IfSome o P) is p

-- ---- a script that is read

module _ (known : Known) (analyzer : Analyzer) (detail : Detail) (left : Option (List ℕ)) (a b : Directories) where
  -- a job that stops with an error is what is done
  ends_as : (s : Status) → IsOfError s → JobDoes (BuildsMeant known analyzer detail left) s a b
      → BuildDoes known analyzer detail left s a b
  ends_as (Refused e) of h = h
  ends_as (Exists e) of h = h
  ends_as (Directory e) of h = h
  ends_as (Damaged e) of h = h
  ends_as Memory of h = inr h
  ends_as Done of h = absurd of
  ends_as Words of h = absurd of
  ends_as Script of h = absurd of
  ends_as Stream of h = absurd of

  module _ (meant : Input) (is_meant : IsMeantBy left meant) where
    abbrev Does : Result (List ℕ) TantivyError → Type 0
    Does r = BuildsText known analyzer meant detail r a b

    so : (P : Input → Type 0) → P meant → OfMeant left P
    so P is = record { meant = meant; is_meant = is_meant; is_so = is }

    both_printed : (text : List ℕ) → Does (Ok text) → Printed known analyzer meant detail text a b
    both_printed text h = printed known analyzer meant detail text a b h

    -- what the source says
    says : IfSome left (λ bytes. script bytes ≡ Some meant)
    says = by left is_meant
      where
        by : (o : Option (List ℕ)) → IsMeantBy o meant → IfSome o (λ bytes. script bytes ≡ Some meant)
        by None is = tt
        by (Some bytes) is = is.0

    leaves_so : (s : Status) (r : Result (List ℕ) TantivyError) → Does r
        → (IsTrue a.work.tells → IsEmptyDisk a.output.disk → s ≡ Done → HasOnly (IsBuiltOf analyzer (Some meant)) b.output.disk.now)
        → IsTrue a.work.tells → IsEmptyDisk a.output.disk → BuildLeaves analyzer left s a b
    leaves_so s r h rest told clean = record {
      meant = Some meant;
      is_script = says;
      leaves = record {
        any_moment = builds_leave known analyzer meant detail a told clean r b h;
        at_rest = rest told clean;
      };
    }

    error_at : (e : TantivyError) → Does (Err e) → AtStatus (build known analyzer detail left) (status_of e) a b
    error_at e h =
        let n = not_printed known analyzer meant detail e a b h in
        record {
          caused =
              caused_as (build known analyzer detail left) a b e
              (refusal_then (RefusesInput known analyzer meant a b) (λ x. OfMeant left (λ input. RefusesInput known analyzer input a b x)) e
              (λ x why. so (λ input. RefusesInput known analyzer input a b x) why)
              (error_refuses known analyzer meant a b detail e n));
          ends = of_meant (record { meant = meant; is_meant = is_meant; is_so = error_ends known analyzer meant a b detail e n });
          does =
              ends_as (status_of e) (of_error e)
              (job_as (BuildsMeant known analyzer detail left) a b (status_of e) e refl (error_memory known analyzer meant a b detail e n)
              (record { meant = meant; is_meant = is_meant; is_so = h }));
          leaves = leaves_so (status_of e) (Err e) h (λ told clean at. absurd (not_done (status_of e) e refl at));
          keeps = λ keeps. absurd (cc keeps);
        }

    done_at : (text : List ℕ) → Does (Ok text) → AtStatus (build known analyzer detail left) Done a b
    done_at text h = record {
      caused = tt;
      ends = of_meant (record { meant = meant; is_meant = is_meant; is_so = done_ends known analyzer meant detail text a b (both_printed text h) });
      does = (text, record { meant = meant; is_meant = is_meant; is_so = h });
      leaves = leaves_so Done (Ok text) h (λ told clean at. builds_rest known analyzer meant detail a told clean text b h);
      keeps = λ keeps. absurd (cc keeps);
    }

    stream_at : (text : List ℕ) → Does (Ok text) → AtStatus (build known analyzer detail left) Stream a b
    stream_at text h = record {
      caused = tt;
      ends = of_meant (record { meant = meant; is_meant = is_meant; is_so = stream_ends known analyzer meant detail text a b (both_printed text h) });
      does = inr (text, record { meant = meant; is_meant = is_meant; is_so = h });
      leaves = leaves_so Stream (Ok text) h (λ told clean at. absurd (cc at));
      keeps = λ keeps. absurd (cc keeps);
    }

    -- the input that is meant is the one that is known
    known_meant : (needs : BuildNeeds known analyzer left a b) → needs.meant ≡ meant
    known_meant needs =
        same_Some needs.meant meant
        (sym needs.is_script ∙ at_left (λ bytes. script bytes ≡ Some meant) left needs.bytes needs.are_left says)

    module _ (one : HoldsOneContents) (valid : ValidInputsAreNotRefused) where
      starves : (e : TantivyError) → Does (Err e) → BuildNeeds known analyzer left a b → status_of e ≡ Memory
      starves e h needs =
          error_starves known analyzer meant detail valid (subst (λ (i : Input). IsValid known analyzer i) (known_meant needs) needs.valid) a b
          needs.ready e (not_printed known analyzer meant detail e a b h)

      build_laws : Laws (build known analyzer detail left) (BuildsText known analyzer meant detail) a b
      build_laws = record {
        error = error_at;
        starves = starves;
        done = done_at;
        stream = stream_at;
        is_text = λ text h. record { meant = meant; is_meant = is_meant; is_so = is_text_of known analyzer meant detail text a b one h };
        has = λ text h. record { meant = meant; is_meant = is_meant; is_so = has_indexes known analyzer meant detail text a b (both_printed text h) };
      }

-- ---- no script is read

module _ (known : Known) (analyzer : Analyzer) (detail : Detail) (left : Option (List ℕ)) (a b : Directories) (same : b ≡ a) where
  unread_caused : (s : Status) → IsUnread s → (s ≡ Script → IfSome left IsNoScript) → IsCaused (build known analyzer detail left) s a b
  unread_caused Script is none = none refl
  unread_caused Stream is none = tt
  unread_caused Memory is none = tt
  unread_caused Done is none = tt
  unread_caused Words is none = tt
  unread_caused (Refused e) is none = absurd is
  unread_caused (Exists e) is none = tt
  unread_caused (Directory e) is none = tt
  unread_caused (Damaged e) is none = tt

  unread_does : (s : Status) → IsUnread s → BuildDoes known analyzer detail left s a b
  unread_does Script is = same
  unread_does Stream is = inl same
  unread_does Memory is = inl same
  unread_does Done is = absurd is
  unread_does Words is = absurd is
  unread_does (Refused e) is = absurd is
  unread_does (Exists e) is = absurd is
  unread_does (Directory e) is = absurd is
  unread_does (Damaged e) is = absurd is

  unread_at : (s : Status) → IsUnread s → (s ≡ Script → IfSome left IsNoScript) → AtStatus (build known analyzer detail left) s a b
  unread_at s is none = record {
    caused = unread_caused s is none;
    ends = unread is same;
    does = unread_does s is;
    leaves = λ told clean. record {
      meant = meant_by left;
      is_script = by_script left;
      leaves = record {
        any_moment =
            still_empty (MayBeBuiltOf analyzer (meant_by left)) (none_may analyzer (meant_by left)) a.output.disk b.output.disk
            (ap (λ (d : Directories). d.output.disk) same) clean;
        at_rest = λ at. absurd (subst IsUnread at is);
      };
    };
    keeps = λ keeps. absurd (cc keeps);
  }

  -- a source that has a script is read, if it doesn't fail
  not_script : BuildNeeds known analyzer left a b → IfSome left IsNoScript → ⊥
  not_script needs none = by (at_left IsNoScript left needs.bytes needs.are_left none)
    where
      by : IsNoScript needs.bytes → ⊥
      by (inl none_there) = cc (sym needs.is_script ∙ none_there)
      by (inr more) = omega (arith, needs.short, more)

  unread_completes : (s : Status) → IsUnread s → (s ≡ Script → IfSome left IsNoScript) → (s ≡ Stream → ⊥) → BuildNeeds known analyzer left a b
      → (s ≡ Done) ⊎ (s ≡ Memory)
  unread_completes Memory is none sound needs = inr refl
  unread_completes Stream is none sound needs = absurd (sound refl)
  unread_completes Script is none sound needs = absurd (not_script needs (none refl))
  unread_completes Done is none sound needs = inl refl
  unread_completes Words is none sound needs = absurd is
  unread_completes (Refused e) is none sound needs = absurd is
  unread_completes (Exists e) is none sound needs = absurd is
  unread_completes (Directory e) is none sound needs = absurd is
  unread_completes (Damaged e) is none sound needs = absurd is

unread_end : (s : Status) (P : Type 0) → IsUnread s → IfReadOut s P
unread_end Script P is = tt
unread_end Stream P is = tt
unread_end Memory P is = tt
unread_end Words P is = tt
unread_end Done P is = absurd is
unread_end (Refused e) P is = absurd is
unread_end (Exists e) P is = absurd is
unread_end (Directory e) P is = absurd is
unread_end (Damaged e) P is = absurd is

-- ---- a run

module _ {S K : Type 0} (known : Known) (analyzer : Analyzer) (detail : Detail) (status : Status) (source source_after : S)
    (sink sink_after : K) (a b : World) where
  abbrev All : Type 0
  All = Promises (build known analyzer detail a.source.left) status source source_after sink sink_after a b

  abbrev Taken : Type 0
  Taken = Takings (build known analyzer detail a.source.left) status source source_after a b

  takings : Takes a.source b.source → IfReadOut status (IsAtEnd b.source.left) → Taken
  takings takes end = record {
    taken = takes.taken;
    turns = takes.turns;
    later = takes.later;
    end = λ reads. end;
    unread = λ reads. absurd (cc reads);
  }

  -- no script is read, and no directory is called
  not_begun : IsUnread status → (status ≡ Script → IfSome a.source.left IsNoScript) → (status ≡ Stream → Rose a.source.faults b.source.faults)
      → Takes a.source b.source → sink_after ≡ sink → b.sink ≡ a.sink → b.directories ≡ a.directories → All
  not_begun is none rose takes same_sink same_written same = record {
    at = unread_at known analyzer detail a.source.left a.directories b.directories same status is none;
    takings = takings takes (unread_end status (IsAtEnd b.source.left) is);
    done = λ at. absurd (subst IsUnread at is);
    has = λ at. absurd (subst IsUnread at is);
    untouched = λ done stream. same_sink;
    stream = λ at. inl (refl, rose at, same_sink, same);
    complete = λ needs sound sink_sound.
        unread_completes known analyzer detail a.source.left a.directories b.directories same status is none (λ at. sound (rose at)) needs;
    sink_later = same_count a b same_written;
  }

  at_script : status ≡ Script → IfSome a.source.left IsNoScript
      → Takes a.source b.source → sink_after ≡ sink → b.sink ≡ a.sink → b.directories ≡ a.directories → All
  at_script is none = not_begun (subst IsUnread (sym is) tt) (λ at. none) (λ at. absurd (cc (sym is ∙ at)))

  at_stream : status ≡ Stream → Rose a.source.faults b.source.faults
      → Takes a.source b.source → sink_after ≡ sink → b.sink ≡ a.sink → b.directories ≡ a.directories → All
  at_stream is rose = not_begun (subst IsUnread (sym is) tt) (λ at. absurd (cc (sym is ∙ at))) (λ at. rose)

  at_memory : status ≡ Memory → Takes a.source b.source → sink_after ≡ sink → b.sink ≡ a.sink → b.directories ≡ a.directories → All
  at_memory is = not_begun (subst IsUnread (sym is) tt) (λ at. absurd (cc (sym is ∙ at))) (λ at. absurd (cc (sym is ∙ at)))

  module _ (one : HoldsOneContents) (valid : ValidInputsAreNotRefused) where
    -- the job of the input of bytes that were all read
    of_bytes : (bytes : List ℕ) (meant : Input) → TakesAll bytes a.source b.source → script bytes ≡ Some meant
        → EndsJob (WithStatus (BuildsText known analyzer meant detail)) status sink sink_after a b → All
    of_bytes bytes meant takes is ends =
        of_job (build known analyzer detail a.source.left) (BuildsText known analyzer meant detail) status source source_after sink sink_after a b
        (build_laws known analyzer detail a.source.left a.directories b.directories meant
        (of_all a.source.left bytes (λ (xs : List ℕ). (script xs ≡ Some meant) × (length xs ≤ max_script)) takes.all (is, takes.short))
        one valid)
        (takings takes.takes (read_out status (IsAtEnd b.source.left) takes.end)) ends

    of_script : (bytes : List ℕ) → TakesAll bytes a.source b.source → EndsJob (BuildsScript known analyzer detail bytes) status sink sink_after a b
        → All
    of_script bytes takes (no_text (no_script is none same) same_sink same_written) =
        at_script (cc is) (of_all a.source.left bytes IsNoScript takes.all (inl none)) takes.takes same_sink same_written same
    of_script bytes takes (no_text (no_memory is same) same_sink same_written) = at_memory (cc is) takes.takes same_sink same_written same
    of_script bytes takes (no_text (of_input meant says w) same_sink same_written) = of_bytes bytes meant takes says (no_text w same_sink same_written)
    of_script bytes takes (has_text text (no_script is none same) writes) = absurd (cc is)
    of_script bytes takes (has_text text (no_memory is same) writes) = absurd (cc is)
    of_script bytes takes (has_text text (of_input meant says w) writes) = of_bytes bytes meant takes says (has_text text w writes)

    pub of_build : RunsBuild known analyzer detail status sink sink_after a b → All
    of_build (not_read is rose takes same_sink same_written same) = at_stream is rose takes same_sink same_written same
    of_build (too_long is long takes same_sink same_written same) =
        at_script is (too_many a.source.left long) takes same_sink same_written same
    of_build (starved is takes same_sink same_written same) = at_memory is takes same_sink same_written same
    of_build (is_read bytes takes job) = of_script bytes takes job

-- words that are no command build nothing
not_words : (status s : Status) → IsUnread s → status ≡ s → status ≡ Words → ⊥
not_words status s early is at = subst IsUnread (sym is ∙ at) early

module _ {K : Type 0} (known : Known) (analyzer : Analyzer) (detail : Detail) (status : Status) (sink sink_after : K) (a b : World) where
  script_no_words : (bytes : List ℕ) → EndsJob (BuildsScript known analyzer detail bytes) status sink sink_after a b → status ≡ Words → ⊥
  script_no_words bytes (no_text (no_script is none same) same_sink same_written) at = not_words status Script tt (cc is) at
  script_no_words bytes (no_text (no_memory is same) same_sink same_written) at = not_words status Memory tt (cc is) at
  script_no_words bytes (no_text (of_input meant says w) same_sink same_written) at =
      no_words (BuildsText known analyzer meant detail) status sink sink_after a b (no_text w same_sink same_written) at
  script_no_words bytes (has_text text does (written is appends later)) at = cc (sym is ∙ at)
  script_no_words bytes (has_text text does (failed is part rose later)) at = cc (sym is ∙ at)

  pub build_no_words : RunsBuild known analyzer detail status sink sink_after a b → status ≡ Words → ⊥
  build_no_words (not_read is rose takes same_sink same_written same) at = cc (sym is ∙ at)
  build_no_words (too_long is long takes same_sink same_written same) at = cc (sym is ∙ at)
  build_no_words (starved is takes same_sink same_written same) at = cc (sym is ∙ at)
  build_no_words (is_read bytes takes ends) at = script_no_words bytes ends at
