-- What is so of both indexes of an input, by how their writing and printing ends.
use Rattle.std.proofs.Common.{◌≡◌, ◌≢◌, ◌∙◌, ℕ, List, Option, None, Some, Ok, refl, sym, ap, subst, inl, inr}
use Rattle.std.specs.Prelude.{◌⊎◌, IfSome}
use Rattle.seg_values.specs.declared.error.TantivyError.{TantivyError}
use Rattle.seg_values.specs.declared.error.TantivyError.TheVariants.{SchemaError, InvalidArgument, IndexAlreadyExists, OpenReadError, OpenWriteError, IoError, DataCorruption, SystemError, FieldNotFound, OutOfMemory}
use Rattle.seg_model.specs.Fields.{Analyzer}
use Rattle.seg_model.specs.Input.{Input}
use Rattle.seg_model.specs.Laws.{ValidInputsAreNotRefused}
use Rattle.seg_model.specs.Refusals.{IfRefusal, build_refusal}
use Rattle.seg_model.specs.ValidInputs.{IsValid, Known, input_refusal}
use Rattle.seg_segment.specs.Laws.{HoldsOneContents}
use Rattle.seg_segment.specs.ReadErrors.{IsNoDamage}
use Rattle.seg_index_build.specs.TwoDirectories.{Directories}
use Rattle.seg_index_build.proofs.Exports.{IsBuildError, RoseIn}
use Rattle.seg_tool.specs.InputIndexes.{BuildsText, EndsFor, HasIndexes, IsTextOfInput, RefusesInput}
use Rattle.seg_tool.specs.Job.{AreReady}
use Rattle.seg_tool.specs.Statuses.{IfWritten, status_of}
use Rattle.seg_tool.specs.declared.status.Status.{Status}
use Rattle.seg_tool.specs.declared.status.Status.TheVariants.{Done, Memory, Refused, Stream}
use Rattle.seg_tool.specs.declared.words.Detail.{Detail}
use Rattle.seg_tool.proofs.BuildLaws.{NotPrinted, Printed, not_damaged, not_error, not_first, not_fresh, not_merged, not_refused, not_untold, printed, printed_meta, printed_output, printed_text, printed_work}
use Rattle.seg_tool.proofs.StatusLaws.{exists_only, first_statuses, memory_only, undamaged_as, when_written}
use Rattle.seg_tool.proofs.Taken.{printed_taken}

-- ---- the first refusal

none_first : (o : Option TantivyError) (P : TantivyError → Type 0) → o ≡ None → IfSome o P
none_first None P none = tt
none_first (Some x) P none = absurd (cc none)

module _ (a b : Directories) where
  first_as : (e : TantivyError) (o : Option TantivyError) → IfSome o (λ x. status_of x ≡ Refused x)
      → IfSome o (λ x. ((e ≡ x) ⊎ (e ≡ OutOfMemory)) × (b ≡ a)) → IfSome o (λ x. ((status_of e ≡ Refused x) ⊎ (status_of e ≡ Memory)) × (b ≡ a))
  first_as e None statuses first = tt
  first_as e (Some x) statuses (inl same, untouched) = (inl (ap status_of same ∙ statuses), untouched)
  first_as e (Some x) statuses (inr starved, untouched) = (inr (ap status_of starved), untouched)

  written_as : (e : TantivyError) (o : Option TantivyError) → IfSome o (λ x. status_of x ≡ Refused x)
      → IfSome o (λ x. ((e ≡ x) ⊎ (e ≡ OutOfMemory)) × (b ≡ a)) → IfWritten (status_of e) (λ _. o ≡ None)
  written_as e None statuses first = when_written (status_of e) _ refl
  written_as e (Some x) statuses (inl same, untouched) = subst (λ (s : Status). IfWritten s (λ _. Some x ≡ None)) (sym (ap status_of same ∙ statuses)) tt
  written_as e (Some x) statuses (inr starved, untouched) = subst (λ (s : Status). IfWritten s (λ _. Some x ≡ None)) (sym (ap status_of starved)) tt

  starved_first : (o : Option TantivyError) → b ≡ a → IfSome o (λ x. ((Memory ≡ Refused x) ⊎ (Memory ≡ Memory)) × (b ≡ a))
  starved_first None same = tt
  starved_first (Some x) same = (inr refl, same)

-- ---- without a text

module _ (known : Known) (analyzer : Analyzer) (input : Input) (a b : Directories) where
  -- memory ran out before a directory was called
  pub starved_ends : b ≡ a → EndsFor known analyzer input Memory a b
  starved_ends same = record {
    first = starved_first a b (input_refusal known analyzer input) same;
    admitted = tt;
    fresh = λ empty e is. cc is;
    whole = λ told told_out e is. cc is;
  }

  module _ (detail : Detail) where
    -- Memory is only for out of memory
    pub error_memory : (e : TantivyError) → NotPrinted known analyzer input detail e a b → status_of e ≡ Memory → e ≡ OutOfMemory
    error_memory e h at =
        memory_only (λ x. IsBuildError x a b) (λ none. none) (λ none. none) e (not_error known analyzer input detail e a b h) at

    pub error_ends : (e : TantivyError) → NotPrinted known analyzer input detail e a b → EndsFor known analyzer input (status_of e) a b
    error_ends e h =
        let first = not_first known analyzer input detail e a b h in
        record {
          first = first_as a b e (input_refusal known analyzer input) (first_statuses known analyzer input) first;
          admitted = written_as a b e (input_refusal known analyzer input) (first_statuses known analyzer input) first;
          fresh = λ empty x is. exists_only e x is (not_fresh known analyzer input detail e a b empty h);
          whole = λ told told_out x is. undamaged_as e x is (not_damaged known analyzer input detail e a b told told_out h);
        }

    -- why it is refused
    pub error_refuses : (e : TantivyError) → NotPrinted known analyzer input detail e a b → IfRefusal (RefusesInput known analyzer input a b) e
    error_refuses (SchemaError cause) h = record {
      told = λ told. not_refused known analyzer input detail (SchemaError cause) a b told h;
      untold = not_untold known analyzer input detail (SchemaError cause) a b h;
      of_batch = not_merged known analyzer input detail (SchemaError cause) a b h;
    }
    error_refuses (InvalidArgument cause) h = record {
      told = λ told. not_refused known analyzer input detail (InvalidArgument cause) a b told h;
      untold = not_untold known analyzer input detail (InvalidArgument cause) a b h;
      of_batch = not_merged known analyzer input detail (InvalidArgument cause) a b h;
    }
    error_refuses IndexAlreadyExists h = tt
    error_refuses OpenReadError h = tt
    error_refuses OpenWriteError h = tt
    error_refuses IoError h = tt
    error_refuses (DataCorruption name) h = tt
    error_refuses SystemError h = tt
    error_refuses FieldNotFound h = tt
    error_refuses OutOfMemory h = tt

-- ---- with a text

module _ (known : Known) (analyzer : Analyzer) (input : Input) (detail : Detail) (text : List ℕ) (a b : Directories)
    (p : Printed known analyzer input detail text a b) where
  pub done_ends : EndsFor known analyzer input Done a b
  done_ends = record {
    first = none_first (input_refusal known analyzer input) _ p.built.ends.admitted;
    admitted = tt;
    fresh = λ empty e is. cc is;
    whole = λ told told_out e is. cc is;
  }

  pub stream_ends : EndsFor known analyzer input Stream a b
  stream_ends = record {
    first = none_first (input_refusal known analyzer input) _ p.built.ends.admitted;
    admitted = tt;
    fresh = λ empty e is. cc is;
    whole = λ told told_out e is. cc is;
  }

  pub has_indexes : HasIndexes known analyzer input a b
  has_indexes = record {
    valid = p.built.ends.valid;
    work_was_empty = λ told. (p.built.ends.in_work told).was_empty;
    work_index = printed_work known analyzer input detail text a b p;
    output_was_empty = λ told. (p.built.ends.in_output told).was_empty;
    output_meta = printed_meta known analyzer input detail text a b p;
    output_index = printed_output known analyzer input detail text a b p;
    reads = printed_taken known analyzer input detail text a b p;
  }

pub is_text_of : (known : Known) (analyzer : Analyzer) (input : Input) (detail : Detail) (text : List ℕ) (a b : Directories)
    → HoldsOneContents → BuildsText known analyzer input detail (Ok text) a b → IsTextOfInput known analyzer detail input a b text
is_text_of known analyzer input detail text a b law builds = record {
  builds = builds;
  told = printed_text known analyzer input detail law text a b (printed known analyzer input detail text a b builds);
}

-- ---- a valid input, where nothing fails

module _ (known : Known) (analyzer : Analyzer) (input : Input) (detail : Detail) (law : ValidInputsAreNotRefused)
    (valid : IsValid known analyzer input) (a b : Directories) (ready : AreReady a b) where
  unrefused : (e : TantivyError) → build_refusal known analyzer input ≡ Some e → ⊥
  unrefused e why = cc (sym why ∙ (law known analyzer input).0 valid)

  no_fault : RoseIn a b → ⊥
  no_fault (inl rose) = ready.work.sound rose
  no_fault (inr rose) = ready.output.sound rose

  starved_only : (e : TantivyError) → IfRefusal (λ x. build_refusal known analyzer input ≡ Some x) e → e ≢ IndexAlreadyExists → IsNoDamage e
      → IsBuildError e a b → status_of e ≡ Memory
  starved_only OutOfMemory refused fresh whole is = refl
  starved_only SystemError refused fresh whole is = refl
  starved_only FieldNotFound refused fresh whole is = refl
  starved_only (SchemaError cause) refused fresh whole is = absurd (unrefused (SchemaError cause) refused)
  starved_only (InvalidArgument cause) refused fresh whole is = absurd (unrefused (InvalidArgument cause) refused)
  starved_only IndexAlreadyExists refused fresh whole is = absurd (fresh refl)
  starved_only (DataCorruption name) refused fresh whole is = absurd whole
  starved_only OpenReadError refused fresh whole is = absurd (no_fault is)
  starved_only OpenWriteError refused fresh whole is = absurd (no_fault is)
  starved_only IoError refused fresh whole is = absurd (no_fault is)

  pub error_starves : (e : TantivyError) → NotPrinted known analyzer input detail e a b → status_of e ≡ Memory
  error_starves e h =
      starved_only e (not_refused known analyzer input detail e a b ready.work.tells h)
      (not_fresh known analyzer input detail e a b
      (record { work_tells = ready.work.tells; work = ready.work.empty; output_tells = ready.output.tells; output = ready.output.empty }) h)
      (not_damaged known analyzer input detail e a b ready.work.tells ready.output.tells h)
      (not_error known analyzer input detail e a b h)
