-- One call of a directory, or one test, as a step.
use Rattle.std.proofs.Common.{◌≡◌, ◌<◌, ℕ, [], ◌∷◌, Err, refl}
use Rattle.seg_values.specs.declared.error.TantivyError.{TantivyError}
use Rattle.seg_values.specs.declared.error.TantivyError.TheVariants.{IndexAlreadyExists}
use Rattle.seg_directory.proofs.StepSequences.{broke}
use Rattle.seg_directory.specs.DirectoryStates.{DirectoryState}
use Rattle.seg_directory.specs.Calls.{Call, listed, kind_of, Goes, Fails}
use Rattle.seg_directory.specs.Errors.{error_of, name_of}
use Rattle.seg_directory.specs.DirectorySteps.{Works, calls, failed, has_files}
use Rattle.seg_directory.specs.declared.error.DirectoryError.{DirectoryError}

-- a call that failed
pub call_failed : {T : Type 0} {call : Call} {d : DirectoryError} {e : TantivyError} {a b : DirectoryState}
    → Fails call d a b → e ≡ error_of (kind_of call) (name_of call) d → Works {T = T} (calls call ∷ []) (Err e) a b
call_failed fails is = broke (failed _ is fails)

-- files where there are to be none
pub call_lists : {T : Type 0} {n : ℕ} {a b : DirectoryState} → Goes (listed n) a b → 0 < n → Works {T = T} (calls (listed 0) ∷ []) (Err IndexAlreadyExists) a b
call_lists goes some = broke (has_files _ refl some refl goes)
