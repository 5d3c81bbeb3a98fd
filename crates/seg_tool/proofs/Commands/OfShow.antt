-- What `show` promises is so.
use Rattle.std.proofs.Common.{◌≡◌, ◌≢◌, List, [], ℕ, Result, Ok, Err, refl, subst, codes}
use Rattle.seg_values.specs.declared.error.TantivyError.{TantivyError}
use Rattle.seg_values.specs.declared.error.TantivyError.TheVariants.{OutOfMemory}
use Rattle.seg_segment.specs.ReadErrors.{IsReadError}
use Rattle.seg_index_build.specs.TwoDirectories.{Directories}
use Rattle.seg_index_build.proofs.Exports.{read_unrefused}
use Rattle.seg_tool.specs.Job.{IsCaused}
use Rattle.seg_tool.specs.PrintedIndex.{PrintsIndex}
use Rattle.seg_tool.specs.Statuses.{status_of}
use Rattle.seg_tool.specs.Words.ShowJob.{HasWholeIndex, ShowEnds, ShowsText, show}
use Rattle.seg_tool.specs.declared.status.Status.{Status}
use Rattle.seg_tool.specs.declared.status.Status.TheVariants.{Done, Exists, Memory, Stream}
use Rattle.seg_tool.specs.declared.words.Detail.TheVariants.{Full}
use Rattle.seg_tool.proofs.BuildLaws.{read_exists}
use Rattle.seg_tool.proofs.IndexLaws.{prints_rose, prints_so, prints_stay, prints_told, prints_undamaged}
use Rattle.seg_tool.proofs.OutputOnDisk.{unused_leaves}
use Rattle.seg_tool.proofs.Promised.{AtStatus, Laws}
use Rattle.seg_tool.proofs.ReadingOnDisk.{prints_keep}
use Rattle.seg_tool.proofs.StatusLaws.{caused_as, exists_only, job_as, memory_left, memory_only}
use Rattle.seg_tool.proofs.WholeIndexes.{printed_whole}

module _ (a b : Directories) where
  read_error : (e : TantivyError) → ShowsText (Err e) a b → IsReadError e
  read_error e h = prints_so [] (codes "segment") Full a.work b.work e h.0

  memory : (e : TantivyError) → ShowsText (Err e) a b → status_of e ≡ Memory → e ≡ OutOfMemory
  memory e h = memory_only IsReadError (λ none. none) (λ none. none) e (read_error e h)

  starves : (e : TantivyError) → ShowsText (Err e) a b → HasWholeIndex a.work b.work → status_of e ≡ Memory
  starves e h whole =
      memory_left e (read_error e h)
      (prints_undamaged [] (codes "segment") Full a.work b.work whole.meta whole.tells whole.is_index e whole.whole h.0)
      (λ is.
      whole.sound
      (prints_rose [] (codes "segment") Full a.work b.work
      (subst (λ (x : TantivyError). PrintsIndex [] (codes "segment") Full (Err x) a.work b.work) is h.0)))

  ends : (r : Result (List ℕ) TantivyError) (status : Status) → ShowsText r a b → ((e : TantivyError) → status ≢ Exists e) → ShowEnds status a b
  ends r status h not_there = record {
    work_stays = (prints_stay [] (codes "segment") Full a.work b.work r h.0).files;
    output_unused = h.1;
    no_file = not_there;
  }

  -- with each status
  at_status : (r : Result (List ℕ) TantivyError) (status : Status) → ShowsText r a b → IsCaused show status a b
      → ((e : TantivyError) → status ≢ Exists e) → show.Does status a b → AtStatus show status a b
  at_status r status h caused not_there does = record {
    caused = caused;
    ends = ends r status h not_there;
    does = does;
    leaves = λ told clean. unused_leaves a b clean h.1 status;
    keeps = λ keeps told. prints_keep [] (codes "segment") Full r a.work b.work told h.0;
  }

  error_at : (e : TantivyError) → ShowsText (Err e) a b → AtStatus show (status_of e) a b
  error_at e h =
      at_status (Err e) (status_of e) h (caused_as show a b e (read_unrefused (λ _. ⊥) e (read_error e h)))
      (λ x at. exists_only e x at (read_exists e (read_error e h))) (job_as ShowsText a b (status_of e) e refl (memory e h) h)

  pub show_laws : Laws show ShowsText a b
  show_laws = record {
    error = error_at;
    starves = starves;
    done = λ text h. at_status (Ok text) Done h tt (λ e at. cc at) (text, h);
    stream = λ text h. at_status (Ok text) Stream h tt (λ e at. cc at) (text, h);
    is_text = λ text h. record { shows = h; told = λ told. prints_told [] (codes "segment") Full a.work b.work text told h.0 };
    has = λ text h told. printed_whole [] (codes "segment") Full a.work b.work text told h.0;
  }
