-- What a check tells.
use Rattle.std.specs.Prelude.{◌≡◌, ◌⊎◌, Option, Some, None, Result, Ok, Err}
use Rattle.seg_values.specs.declared.error.TantivyError.{TantivyError}
use Rattle.seg_values.specs.declared.error.TantivyError.TheVariants.{OutOfMemory}

-- a check tells this error, or that there is none, unless out of memory
abbrev pub Tells : {T : Type 0} → Option TantivyError → Result T TantivyError → Type 0
Tells error (Ok _) = error ≡ None
Tells error (Err e) = (error ≡ Some e) ⊎ (e ≡ OutOfMemory)
