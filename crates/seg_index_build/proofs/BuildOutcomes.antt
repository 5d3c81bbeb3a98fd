-- What the building of an index comes to, from what its steps say.
use Rattle.std.proofs.Common.{◌≡◌, ◌≢◌, ◌∙◌, Option, None, Some, refl, sym, subst, inl, inr}
use Rattle.std.specs.Prelude.{◌⊎◌, IfSome}
use Rattle.seg_values.specs.declared.error.TantivyError.{TantivyError}
use Rattle.seg_values.specs.declared.error.TantivyError.TheVariants.{IndexAlreadyExists, OutOfMemory}
use Rattle.seg_model.specs.Fields.{Analyzer}
use Rattle.seg_model.specs.Input.{Input}
use Rattle.seg_model.specs.ValidInputs.{Known, input_refusal}
use Rattle.seg_open.specs.OpeningSteps.{IsNoDamage}
use Rattle.seg_model.specs.Refusals.{IsRefusal, batches_error, build_refusal}
use Rattle.seg_check.proofs.Exports.{first_is_refusal}
use Rattle.seg_batches.proofs.Exports.{refusal_weaker}
use Rattle.seg_index_build.specs.BuildOutcomes.{IsBuildError, IsWhyUntold, StopsBuilding}
use Rattle.seg_index_build.specs.TwoDirectories.{Directories}
use Rattle.seg_index_build.proofs.BuildErrors.{complete_of, of_memory, of_refusal}
use Rattle.seg_index_build.proofs.BuildOnDisk.{not_begun_leaves}
use Rattle.seg_index_build.proofs.BuildRefusals.{caused_refusal, refusal_undamaged}
use Rattle.seg_index_build.proofs.KeptDirectories.{stays}

-- ---- before a directory is called

not_there : (e : TantivyError) → IsRefusal e ⊎ (e ≡ OutOfMemory) → e ≢ IndexAlreadyExists
not_there e (inl refusal) is = subst IsRefusal is refusal
not_there e (inr starved) is = absurd (cc (sym starved ∙ is))

undamaged : (e : TantivyError) → IsRefusal e ⊎ (e ≡ OutOfMemory) → IsNoDamage e
undamaged e (inl refusal) = refusal_undamaged e refusal
undamaged e (inr starved) = subst IsNoDamage (sym starved) tt

first_or_memory : (o : Option TantivyError) (e : TantivyError) (P : Type 0) → P → (o ≡ Some e) ⊎ (e ≡ OutOfMemory)
    → IfSome o (λ x. ((e ≡ x) ⊎ (e ≡ OutOfMemory)) × P)
first_or_memory o e P p (inl is) =
    subst (λ (o : Option TantivyError). IfSome o (λ x. ((e ≡ x) ⊎ (e ≡ OutOfMemory)) × P)) (sym is) (inl refl, p)
first_or_memory None e P p (inr starved) = tt
first_or_memory (Some x) e P p (inr starved) = (inr starved, p)

refusal_or_memory : (known : Known) (analyzer : Analyzer) (input : Input) (e : TantivyError)
    → (input_refusal known analyzer input ≡ Some e) ⊎ (e ≡ OutOfMemory) → IsRefusal e ⊎ (e ≡ OutOfMemory)
refusal_or_memory known analyzer input e (inl is) = inl (first_is_refusal known analyzer input e is)
refusal_or_memory known analyzer input e (inr starved) = inr starved

begun_error : (e : TantivyError) (state : Directories) → IsRefusal e ⊎ (e ≡ OutOfMemory) → IsBuildError e state state
begun_error e state (inl refusal) = of_refusal e state state refusal
begun_error e state (inr starved) = of_memory e state state starved

unless_none : (o : Option TantivyError) (P : Type 0) → P → IfSome o (λ _. P)
unless_none None P p = tt
unless_none (Some e) P p = p

pub not_begun : (known : Known) (analyzer : Analyzer) (input : Input) (e : TantivyError) (state : Directories)
    → (input_refusal known analyzer input ≡ Some e) ⊎ (e ≡ OutOfMemory) → StopsBuilding known analyzer input e state state
not_begun known analyzer input e state cause =
    let kind = refusal_or_memory known analyzer input e cause in
    record {
      first = first_or_memory (input_refusal known analyzer input) e _ refl cause;
      refused = λ told. caused_refusal known analyzer input e cause;
      untold =
          refusal_weaker (λ x. build_refusal known analyzer input ≡ Some x)
          (IsWhyUntold known analyzer input) (λ x is. inl is) e
          (caused_refusal known analyzer input e cause);
      fresh = λ empty. not_there e kind;
      whole = λ told. undamaged e kind;
      batch_refused = unless_none (batches_error input.schema analyzer 0 input.cuts input.operations) _ (stays state.output);
      errors = begun_error e state kind;
      complete = λ can.
          complete_of known analyzer input e state state (begun_error e state kind)
          (caused_refusal known analyzer input e cause) (not_there e kind) (undamaged e kind) can;
      any_moment = not_begun_leaves analyzer input state;
    }
