-- A failing result has one error.
use Rattle.std.proofs.Common.{◌≡◌, Result, Err}
use Rattle.seg_values.specs.declared.error.TantivyError.{TantivyError}

abbrev pub failing : (T : Type 0) → TantivyError → Result T TantivyError
failing T e = Err e

pub same_error : (T : Type 0) (e d : TantivyError) → failing T e ≡ failing T d → e ≡ d
same_error T e d is = cc is
