-- What `merge` promises is so.
use Rattle.std.proofs.Common.{◌≡◌, ◌≢◌, List, ℕ, Ok, Err, refl}
use Rattle.seg_values.specs.declared.error.TantivyError.{TantivyError}
use Rattle.seg_segment.specs.Laws.{HoldsOneContents}
use Rattle.seg_index_build.specs.TwoDirectories.{Directories}
use Rattle.seg_tool.specs.Statuses.{status_of}
use Rattle.seg_tool.specs.Words.MergeJob.{MergeEnds, MergeNeeds, MergesText, merge}
use Rattle.seg_tool.specs.declared.status.Status.{Status}
use Rattle.seg_tool.specs.declared.status.Status.TheVariants.{Damaged, Done, Exists, Memory, Stream}
use Rattle.seg_tool.proofs.JobsOnDisk.{merges_leave, merges_rest}
use Rattle.seg_tool.proofs.MergeLaws.{merge_fresh, merge_memory, merge_refuses, merge_undamaged, merges_starve}
use Rattle.seg_tool.proofs.MergedText.{is_merged, merges_others, merges_stay}
use Rattle.seg_tool.proofs.Promised.{AtStatus, Laws, not_done}
use Rattle.seg_tool.proofs.StatusLaws.{caused_as, exists_only, job_as, undamaged_as}
use Rattle.seg_tool.proofs.WholeIndexes.{merged_whole}
use Rattle.seg_tool.proofs.WorkOnDisk.{merges_keep}

module _ (a b : Directories) where
  error_ends : (e : TantivyError) → MergesText (Err e) a b → MergeEnds (status_of e) a b
  error_ends e h = record {
    work_stays = merges_stay a b (Err e) h;
    others = merges_others a b (Err e) h;
    fresh = λ told none x at. exists_only e x at (merge_fresh a b told none e h);
    whole = λ told told_out has x at. undamaged_as e x at (merge_undamaged a b told told_out has e h);
  }

  text_ends : (status : Status) → ((e : TantivyError) → status ≢ Exists e) → ((e : TantivyError) → status ≢ Damaged e)
      → (text : List ℕ) → MergesText (Ok text) a b → MergeEnds status a b
  text_ends status not_there not_damaged text h = record {
    work_stays = merges_stay a b (Ok text) h;
    others = merges_others a b (Ok text) h;
    fresh = λ told none e at. not_there e at;
    whole = λ told told_out has e at. not_damaged e at;
  }

  error_at : (e : TantivyError) → MergesText (Err e) a b → AtStatus merge (status_of e) a b
  error_at e h = record {
    caused = caused_as merge a b e (merge_refuses a b e h);
    ends = error_ends e h;
    does = job_as MergesText a b (status_of e) e refl (merge_memory a b e h) h;
    leaves = λ told clean. record {
      any_moment = merges_leave a told clean (Err e) b h;
      at_rest = λ at. absurd (not_done (status_of e) e refl at);
    };
    keeps = λ keeps. merges_keep (Err e) a b h;
  }

  done_at : (text : List ℕ) → MergesText (Ok text) a b → AtStatus merge Done a b
  done_at text h = record {
    caused = tt;
    ends = text_ends Done (λ e at. cc at) (λ e at. cc at) text h;
    does = (text, h);
    leaves = λ told clean. record {
      any_moment = merges_leave a told clean (Ok text) b h;
      at_rest = λ at. merges_rest a told clean text b h;
    };
    keeps = λ keeps. merges_keep (Ok text) a b h;
  }

  stream_at : (text : List ℕ) → MergesText (Ok text) a b → AtStatus merge Stream a b
  stream_at text h = record {
    caused = tt;
    ends = text_ends Stream (λ e at. cc at) (λ e at. cc at) text h;
    does = (text, h);
    leaves = λ told clean. record {
      any_moment = merges_leave a told clean (Ok text) b h;
      at_rest = λ at. absurd (cc at);
    };
    keeps = λ keeps. merges_keep (Ok text) a b h;
  }

  starves : (e : TantivyError) → MergesText (Err e) a b → MergeNeeds a b → status_of e ≡ Memory
  starves e h needs = merges_starve a b needs.can needs.ready e h

  pub merge_laws : HoldsOneContents → Laws merge MergesText a b
  merge_laws one = record {
    error = error_at;
    starves = starves;
    done = done_at;
    stream = stream_at;
    is_text = λ text h. is_merged a b one text h;
    has = λ text h. merged_whole a b text h;
  }
