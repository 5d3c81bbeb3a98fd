-- An error of a call with a directory tells no refusal.
use Rattle.std.proofs.Common.{◌≡◌, List, [], ◌∷◌, Err, sym, subst, inl, inr}
use Rattle.seg_common.specs.declared.name.FileName.{FileName}
use Rattle.seg_values.specs.declared.error.TantivyError.{TantivyError}
use Rattle.seg_values.specs.declared.error.TantivyError.TheVariants.{OutOfMemory}
use Rattle.seg_directory.specs.Calls.{Call, kind_of}
use Rattle.seg_directory.specs.StepSequences.{GoesOn}
use Rattle.seg_directory.specs.Errors.{error_of, name_of}
use Rattle.seg_directory.specs.DirectoryStates.{DirectoryState}
use Rattle.seg_directory.specs.DirectorySteps.{Step, calls, passes, StepGoes, StepBreaks, CallBreaks, failed, has_files, Works}
use Rattle.seg_directory.specs.declared.answer.CallKind.{CallKind}
use Rattle.seg_directory.specs.declared.answer.CallKind.TheVariants as kind
use Rattle.seg_directory.specs.declared.error.DirectoryError.{DirectoryError}
use Rattle.seg_directory.specs.declared.error.DirectoryError.TheVariants as directory
use Rattle.seg_model.specs.Refusals.{IfRefusal}

-- calls alone, without a test
abbrev pub AreCalls : List Step → Type 0
AreCalls [] = Unit {0}
AreCalls (calls call ∷ steps) = AreCalls steps
AreCalls (passes refusal ∷ steps) = ⊥

module _ (P : TantivyError → Type 0) where
  pub of_memory : (e : TantivyError) → e ≡ OutOfMemory → IfRefusal P e
  of_memory e is = subst (IfRefusal P) (sym is) tt

  of_error : (call : CallKind) (name : FileName) (d : DirectoryError) → IfRefusal P (error_of call name d)
  of_error kind.List name directory.Fault = tt
  of_error kind.OpenRead name directory.Fault = tt
  of_error kind.WriteNew name directory.Fault = tt
  of_error kind.AtomicWrite name directory.Fault = tt
  of_error kind.SyncDirectory name directory.Fault = tt
  of_error call name directory.OutOfMemory = tt
  of_error call name directory.Exists = tt
  of_error call name directory.Missing = tt

  of_call : (call : Call) (e : TantivyError) (a b : DirectoryState) → CallBreaks call e a b → IfRefusal P e
  of_call call e a b (failed d is fails) = subst (IfRefusal P) (sym is) (of_error (kind_of call) (name_of call) d)
  of_call call e a b (has_files n is some error goes) = subst (IfRefusal P) (sym error) tt

  of_calls : (T : Type 0) (steps : List Step) (e : TantivyError) (a b : DirectoryState) → AreCalls steps
      → GoesOn {T = T} StepGoes StepBreaks OutOfMemory steps (Err e) a b → IfRefusal P e
  of_calls T [] e a b are on = of_memory e on.1
  of_calls T (passes refusal ∷ steps) e a b are on = absurd are
  of_calls T (calls call ∷ steps) e a b are (inl w) = of_calls T steps e w.0 b are w.2
  of_calls T (calls call ∷ steps) e a b are (inr (inl starved)) = of_memory e starved.0
  of_calls T (calls call ∷ steps) e a b are (inr (inr breaks)) = of_call call e a b breaks

  -- nor does that of steps that are calls
  pub unrefused : {T : Type 0} {steps : List Step} {e : TantivyError} {a b : DirectoryState} → AreCalls steps
      → Works {T = T} steps (Err e) a b → IfRefusal P e
  unrefused {T = T} {steps = steps} {e = e} {a = a} {b = b} are works = of_calls T steps e a b are works.on
