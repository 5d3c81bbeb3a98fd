-- Why a batch is not written: no writer can be started, or the batch is refused.
use Rattle.std.proofs.Common.{◌≡◌, ◌∙◌, ℕ, List, [], ◌∷◌, Option, Some, None, Result, Ok, Err, refl, sym, ap, subst, inl, inr}
use Rattle.std.specs.Prelude.{◌⊎◌, IfErr, IfSome}
use Rattle.std.specs.List.{enumerate_from}
use Rattle.std.specs.Option.{option_or}
use Rattle.std.proofs.lemmas.List.{append-nil}
use Rattle.seg_common.proofs.Results.{at_ok}
use Rattle.seg_values.specs.declared.error.TantivyError.{TantivyError}
use Rattle.seg_values.specs.declared.error.TantivyError.TheVariants.{OutOfMemory}
use Rattle.seg_directory.specs.DirectoryStates.{DirectoryState}
use Rattle.seg_directory.specs.DirectorySteps.{Works}
use Rattle.seg_model.specs.DocumentCheck.{first_of}
use Rattle.seg_model.specs.Fields.{Schema, Analyzer}
use Rattle.seg_model.specs.Operations.{Operation, Batch}
use Rattle.seg_model.specs.ValidInputs.{Known}
use Rattle.seg_meta.specs.declared.index_settings.IndexSettings.{IndexSettings}
use Rattle.seg_segment.specs.SegmentFiles.{write_steps}
use Rattle.seg_segment.specs.declared.segment_files.SegmentFiles.{SegmentFiles}
use Rattle.seg_check.specs.WriterStart.{start_refusal}
use Rattle.seg_model.specs.Refusals.{IsRefusal, batch_error}
use Rattle.seg_model.specs.CheckAnswers.{Tells}
use Rattle.seg_batches.specs.BatchWriteSteps.{MakesBatches, StandAndTell, batch_cause, batch_steps}

-- ---- causes that are told

-- a writer that isn't started tells why
started : {T : Type 0} (o : Option TantivyError) (r : Result T TantivyError) → IfSome o (λ e. r ≡ Err e)
    → IfErr r (λ e. (o ≡ Some e) ⊎ (e ≡ OutOfMemory)) → Tells o r
started None (Ok x) refused causes = refl
started (Some e) (Ok x) refused causes = absurd (cc refused)
started o (Err d) refused causes = causes

pub starts : {T : Type 0} (known : Known) (given schema : Schema) (settings : IndexSettings) (r : Result T TantivyError)
    → given ≡ schema → IfSome (start_refusal known 15000 given settings) (λ e. r ≡ Err e)
    → IfErr r (λ e. (start_refusal known 15000 given settings ≡ Some e) ⊎ (e ≡ OutOfMemory)) → Tells (start_refusal known 15000 schema settings) r
starts known given schema settings r same refused causes =
    subst (λ s. Tells (start_refusal known 15000 s settings) r) same (started (start_refusal known 15000 given settings) r refused causes)

-- what a writer can't be started for is a cause
pub tells_start : (start batch : Option TantivyError) (e : TantivyError) → (start ≡ Some e) ⊎ (e ≡ OutOfMemory)
    → (option_or start batch ≡ Some e) ⊎ (e ≡ OutOfMemory)
tells_start start batch e (inl is) = inl (ap (λ o. option_or o batch) is)
tells_start start batch e (inr memory) = inr memory

-- and, once it is started, what the batch is refused for
module _ (start : Option TantivyError) (given schema : Schema) (by analyzer : Analyzer) (first : ℕ)
    (operations : List Operation) (same_schema : given ≡ schema) (same : by ≡ analyzer) (none : start ≡ None) where
  cause_is : batch_cause start schema analyzer (enumerate_from first operations) ≡ batch_error given by first operations
  cause_is =
      ap (λ o. option_or o (batch_error schema analyzer first operations)) none
      ∙ sym (ap (λ s. batch_error s by first operations) same_schema ∙ ap (λ a. batch_error schema a first operations) same)

  pub no_cause : batch_error given by first operations ≡ None
      → batch_cause start schema analyzer (enumerate_from first operations) ≡ None
  no_cause is = cause_is ∙ is

  pub tells_batch : (e : TantivyError) → (batch_error given by first operations ≡ Some e) ⊎ (e ≡ OutOfMemory)
      → (batch_cause start schema analyzer (enumerate_from first operations) ≡ Some e) ⊎ (e ≡ OutOfMemory)
  tells_batch e (inl is) = inl (cause_is ∙ is)
  tells_batch e (inr memory) = inr memory

-- ---- causes of batches

-- a cause tells a refusal
abbrev pub TellsRefusal : Option TantivyError → Type 0
TellsRefusal cause = (e : TantivyError) → cause ≡ Some e → IsRefusal e

-- the first cause that there is
abbrev pub IsFirst : List (Option TantivyError) → TantivyError → Type 0
IsFirst causes e = first_of (λ o. o) causes ≡ Some e

-- ---- a batch

module _ (cause : Option TantivyError) (schema : Schema) (block_size : ℕ) (analyzer : Analyzer) (id : ℕ) (batch : Batch) where
  -- no file of it is made
  pub not_begun : {T : Type 0} (e : TantivyError) (a : DirectoryState) → (cause ≡ Some e) ⊎ (e ≡ OutOfMemory)
      → MakesBatches {T = T} (cause ∷ []) schema block_size analyzer (id ∷ []) (batch ∷ []) (Err e) a a
  not_begun e a h = record {
    files = [];
    stand = tt;
    whole = tt;
    works = record {
      on = elim h [
        | inl is ↦ inr (inr (is, refl))
        | inr memory ↦ inr (inl (memory, refl))
      ];
    };
  }

  -- its files are written
  pub begun : {T : Type 0} (files : SegmentFiles) (r : Result T TantivyError) (a b : DirectoryState) → cause ≡ None
      → StandAndTell schema block_size analyzer batch.documents files → Works (write_steps id files) r a b
      → MakesBatches (cause ∷ []) schema block_size analyzer (id ∷ []) (batch ∷ []) r a b
  begun files r a b none stand works = record {
    files = files ∷ [];
    stand = (stand, tt);
    whole = at_ok r refl;
    works =
        subst (λ steps. Works steps r a b) (sym (append-nil (batch_steps id cause files)))
        (record { on = inl (a, (none, refl), works.on) });
  }
