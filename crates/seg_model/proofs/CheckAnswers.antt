-- What a check tells is handed on.
use Rattle.std.proofs.Common.{◌≡◌, Some, Option, Result, Err, sym, ap, subst, ◌∙◌}
use Rattle.std.specs.Prelude.{◌⊎◌, IsErrAnd}
use Rattle.std.proofs.lemmas.Result.{err_from_is_err_and}
use Rattle.seg_values.specs.declared.error.TantivyError.{TantivyError}
use Rattle.seg_values.specs.declared.error.TantivyError.TheVariants.{OutOfMemory}
use Rattle.seg_model.specs.CheckAnswers.{Tells}

-- an error that is handed on is told
pub told_on : {T : Type 0} (error : Option TantivyError) (e : TantivyError) (result : Result T TantivyError) → IsErrAnd result (λ x. x ≡ e) → (error ≡ Some e) ⊎ (e ≡ OutOfMemory) → Tells error result
told_on error e result is h = let err = err_from_is_err_and result is in subst (λ r. Tells error r) (sym (err.1 ∙ ap (λ x. Err x) err.2)) h
