-- What `generate` promises is so.
use Rattle.std.proofs.Common.{◌≡◌, ℕ, List, Result, Ok, Err, refl, sym, ap, subst}
use Rattle.seg_values.specs.declared.error.TantivyError.{TantivyError}
use Rattle.seg_values.specs.declared.error.TantivyError.TheVariants.{OutOfMemory}
use Rattle.seg_model.specs.Fields.{Analyzer}
use Rattle.seg_model.specs.Laws.{ValidInputsAreNotRefused}
use Rattle.seg_model.specs.ValidInputs.{Known}
use Rattle.seg_segment.specs.Laws.{HoldsOneContents}
use Rattle.seg_segment.proofs.Exports.{same_error}
use Rattle.seg_index_build.specs.TwoDirectories.{Directories}
use Rattle.seg_generate.specs.GeneratedInput.{generated}
use Rattle.seg_generate.specs.GeneratedTexts.{GeneratedInputsAreValid}
use Rattle.seg_tool.specs.InputIndexes.{BuildsText}
use Rattle.seg_tool.specs.Statuses.{status_of}
use Rattle.seg_tool.specs.Words.GenerateJob.{GeneratesText, generate, not_generated, of_generated}
use Rattle.seg_tool.specs.declared.status.Status.TheVariants.{Done, Memory, Stream}
use Rattle.seg_tool.specs.declared.words.Detail.TheVariants.{Summary}
use Rattle.seg_tool.proofs.BuildLaws.{NotPrinted, Printed, not_printed, printed}
use Rattle.seg_tool.proofs.JobsOnDisk.{generates_leave, generates_rest}
use Rattle.seg_tool.proofs.OfInput.{done_ends, error_ends, error_memory, error_refuses, error_starves, has_indexes, is_text_of, starved_ends, stream_ends}
use Rattle.seg_tool.proofs.Promised.{AtStatus, Laws, not_done}
use Rattle.seg_tool.proofs.StatusLaws.{caused_as, job_as}

module _ (known : Known) (analyzer : Analyzer) (seed : ℕ) (a b : Directories) where
  abbrev Does : Result (List ℕ) TantivyError → Type 0
  Does r = GeneratesText known analyzer seed r a b

  of_text : (text : List ℕ) → Does (Ok text) → BuildsText known analyzer (generated seed) Summary (Ok text) a b
  of_text text (not_generated is same) = absurd (cc is)
  of_text text (of_generated builds) = builds

  both_printed : (text : List ℕ) → Does (Ok text) → Printed known analyzer (generated seed) Summary text a b
  both_printed text h = printed known analyzer (generated seed) Summary text a b (of_text text h)

  not_both : (e : TantivyError) → BuildsText known analyzer (generated seed) Summary (Err e) a b
      → NotPrinted known analyzer (generated seed) Summary e a b
  not_both e builds = not_printed known analyzer (generated seed) Summary e a b builds

  -- ---- without a text

  starved_at : Does (Err OutOfMemory) → b ≡ a → AtStatus (generate known analyzer seed) Memory a b
  starved_at h same = record {
    caused = tt;
    ends = starved_ends known analyzer (generated seed) a b same;
    does = record { error = OutOfMemory; is_its = refl; starved = λ at. refl; stops = h };
    leaves = λ told clean. record {
      any_moment = generates_leave known analyzer seed a told clean (Err OutOfMemory) b h;
      at_rest = λ at. absurd (cc at);
    };
    keeps = λ keeps. absurd (cc keeps);
  }

  error_at : (e : TantivyError) → Does (Err e) → AtStatus (generate known analyzer seed) (status_of e) a b
  error_at e (not_generated is same) =
      subst (λ (x : TantivyError). AtStatus (generate known analyzer seed) (status_of x) a b) (sym (same_error (List ℕ) e OutOfMemory is))
      (starved_at (not_generated refl same) same)
  error_at e (of_generated builds) =
      let h = not_both e builds in
      record {
        caused = caused_as (generate known analyzer seed) a b e (error_refuses known analyzer (generated seed) a b Summary e h);
        ends = error_ends known analyzer (generated seed) a b Summary e h;
        does =
            job_as (GeneratesText known analyzer seed) a b (status_of e) e refl (error_memory known analyzer (generated seed) a b Summary e h)
            (of_generated builds);
        leaves = λ told clean. record {
          any_moment = generates_leave known analyzer seed a told clean (Err e) b (of_generated builds);
          at_rest = λ at. absurd (not_done (status_of e) e refl at);
        };
        keeps = λ keeps. absurd (cc keeps);
      }

  -- ---- with a text

  done_at : (text : List ℕ) → Does (Ok text) → AtStatus (generate known analyzer seed) Done a b
  done_at text h = record {
    caused = tt;
    ends = done_ends known analyzer (generated seed) Summary text a b (both_printed text h);
    does = (text, h);
    leaves = λ told clean. record {
      any_moment = generates_leave known analyzer seed a told clean (Ok text) b h;
      at_rest = λ at. generates_rest known analyzer seed a told clean text b h;
    };
    keeps = λ keeps. absurd (cc keeps);
  }

  stream_at : (text : List ℕ) → Does (Ok text) → AtStatus (generate known analyzer seed) Stream a b
  stream_at text h = record {
    caused = tt;
    ends = stream_ends known analyzer (generated seed) Summary text a b (both_printed text h);
    does = (text, h);
    leaves = λ told clean. record {
      any_moment = generates_leave known analyzer seed a told clean (Ok text) b h;
      at_rest = λ at. absurd (cc at);
    };
    keeps = λ keeps. absurd (cc keeps);
  }

  module _ (one : HoldsOneContents) (valid : ValidInputsAreNotRefused) (generates : GeneratedInputsAreValid) where
    starves : (e : TantivyError) → Does (Err e) → (generate known analyzer seed).Needs a b → status_of e ≡ Memory
    starves e (not_generated is same) needs = ap status_of (same_error (List ℕ) e OutOfMemory is)
    starves e (of_generated builds) needs =
        error_starves known analyzer (generated seed) Summary valid (generates known analyzer seed needs.takes) a b needs.ready e
        (not_both e builds)

    pub generate_laws : Laws (generate known analyzer seed) (GeneratesText known analyzer seed) a b
    generate_laws = record {
      error = error_at;
      starves = starves;
      done = done_at;
      stream = stream_at;
      is_text = λ text h. is_text_of known analyzer (generated seed) Summary text a b one (of_text text h);
      has = λ text h. has_indexes known analyzer (generated seed) Summary text a b (both_printed text h);
    }
