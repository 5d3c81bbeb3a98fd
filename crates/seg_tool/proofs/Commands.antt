-- What is promised of a run, by the command that its words ask for.
pub mod OfBuild
pub mod OfGenerate
pub mod OfMerge
pub mod OfShow
use Rattle.std.proofs.Common.{◌≡◌, ◌∙◌, ℕ, List, false, Option, None, Some, refl, sym, ap, subst}
use Rattle.std.specs.Prelude.{◌↔◌, ◌≢◌, String}
use Rattle.std.specs.declared.alloc.Global.{Global}
use Rattle.seg_model.specs.Fields.{Analyzer}
use Rattle.seg_model.specs.Laws.{ValidInputsAreNotRefused}
use Rattle.seg_model.specs.ValidInputs.{Known}
use Rattle.seg_segment.specs.Laws.{HoldsOneContents}
use Rattle.seg_generate.specs.GeneratedTexts.{GeneratedInputsAreValid}
use Rattle.seg_index_build.specs.TwoDirectories.{Directories}
use Rattle.seg_tool.specs.Job.{IsCaused, Job}
use Rattle.seg_tool.specs.Runs.{Runs, RunsCommand, RunsUnread, TouchesNothing, WithStatus, World}
use Rattle.seg_tool.specs.Words.{command_of, job_of, no_job}
use Rattle.seg_tool.specs.Words.GenerateJob.{generate}
use Rattle.seg_tool.specs.Words.MergeJob.{merge}
use Rattle.seg_tool.specs.Words.ShowJob.{show}
use Rattle.seg_tool.specs.declared.status.Status.{Status}
use Rattle.seg_tool.specs.declared.status.Status.TheVariants.{Words}
use Rattle.seg_tool.specs.declared.words.Command.{Command}
use Rattle.seg_tool.specs.declared.words.Command.TheVariants.{Build, Generate, Merge, Show}
use Rattle.seg_tool.proofs.Commands.OfBuild.{build_no_words, of_build}
use Rattle.seg_tool.proofs.Commands.OfGenerate.{generate_laws}
use Rattle.seg_tool.proofs.Commands.OfMerge.{merge_laws}
use Rattle.seg_tool.proofs.Commands.OfShow.{show_laws}
use Rattle.seg_tool.proofs.OutputOnDisk.{unused_leaves}
use Rattle.seg_tool.proofs.Promised.{Laws, Promises, no_words, none_taken, of_job, same_count}
use Rattle.seg_tool.proofs.WorkOnDisk.{kept_same}

module _ {S K : Type 0} (known : Known) (analyzer : Analyzer) (status : Status) (source source_after : S) (sink sink_after : K) (a b : World) where
  abbrev Keeps : Job → Type 0
  Keeps job = Promises job status source source_after sink sink_after a b

  -- and the status isn't that of words that are no command
  abbrev Serves : Job → Type 0
  Serves job = Keeps job × (status ≢ Words)

  -- a job that reads no source
  unread : (job : Job) → job.reads ≡ false → Laws job job.Makes a.directories b.directories
      → RunsUnread (WithStatus job.Makes) status source source_after sink sink_after a b → Serves job
  unread job reads laws h = (
    of_job job job.Makes status source source_after sink sink_after a b laws
        (none_taken job status source source_after a b reads h.same_source h.same) h.ends,
    no_words job.Makes status sink sink_after a b h.ends,
  )

  -- words that are no command
  nothing : TouchesNothing status source source_after sink sink_after a b → Keeps no_job
  nothing h =
      let same = ap (λ (w : World). w.directories) h.same in
      record {
        at = record {
          caused = subst (λ (s : Status). IsCaused no_job s a.directories b.directories) (sym h.is) tt;
          ends = same;
          does = same;
          leaves = λ told clean. unused_leaves a.directories b.directories clean (ap (λ (d : Directories). d.output) same) status;
          keeps = λ keeps. kept_same a.directories.work b.directories.work (ap (λ (d : Directories). d.work) same);
        };
        takings = none_taken no_job status source source_after a b refl h.same_source (ap (λ (w : World). w.source) h.same);
        done = λ at. absurd (cc (sym h.is ∙ at));
        has = λ at. absurd (cc (sym h.is ∙ at));
        untouched = λ done stream. h.same_sink;
        stream = λ at. absurd (cc (sym h.is ∙ at));
        complete = λ needs sound sink_sound. absurd needs;
        sink_later = same_count a b (ap (λ (w : World). w.sink) h.same);
      }

  module _ (one : HoldsOneContents) (valid : ValidInputsAreNotRefused) (generates : GeneratedInputsAreValid) where
    -- a line for each command
    served : (command : Command) → RunsCommand known analyzer (Some command) status source source_after sink sink_after a b
        → Serves (job_of known analyzer a.source.left (Some command))
    served (Build detail) h = (
      of_build known analyzer detail status source source_after sink sink_after a b one valid h,
      build_no_words known analyzer detail status sink sink_after a b h,
    )
    served (Generate seed) h =
        unread (generate known analyzer seed) refl (generate_laws known analyzer seed a.directories b.directories one valid generates) h
    served Merge h = unread merge refl (merge_laws a.directories b.directories one) h
    served Show h = unread show refl (show_laws a.directories b.directories) h

    of_command : (o : Option Command) → RunsCommand known analyzer o status source source_after sink sink_after a b
        → Keeps (job_of known analyzer a.source.left o)
    of_command None h = nothing h
    of_command (Some command) h = (served command h).0

    words_only : (o : Option Command) → RunsCommand known analyzer o status source source_after sink sink_after a b
        → (status ≡ Words ↔ (o ≡ None))
    words_only None h = (λ at. refl, λ none. h.is)
    words_only (Some command) h = (λ at. absurd ((served command h).1 at), λ none. absurd (cc none))

module _ {S K : Type 0} {known : Known} {analyzer : Analyzer} {words : List (String Global)} {status : Status} {source source_after : S} {sink sink_after : K} {a b : World}
    (r : Runs known analyzer words status source source_after sink sink_after a b) where
  module _ (one : HoldsOneContents) (valid : ValidInputsAreNotRefused) (generates : GeneratedInputsAreValid) where
    pub promised : Promises (job_of known analyzer a.source.left (command_of words)) status source source_after sink sink_after a b
    promised =
        of_command known analyzer status source source_after sink sink_after a b one valid generates (command_of words) r.runs

    pub run_words : status ≡ Words ↔ (command_of words ≡ None)
    run_words = words_only known analyzer status source source_after sink sink_after a b one valid generates (command_of words) r.runs
