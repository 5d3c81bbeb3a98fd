-- With which errors readings end.
use Rattle.std.specs.Prelude.{⊤}
use Rattle.seg_values.specs.declared.error.TantivyError.{TantivyError}
use Rattle.seg_values.specs.declared.error.TantivyError.TheVariants.{DataCorruption, OpenReadError, OutOfMemory}

-- an error that tells of no damage
abbrev pub IsNoDamage : TantivyError → Type 0
IsNoDamage (DataCorruption name) = ⊥
IsNoDamage e = ⊤

-- an error with which a reading ends
abbrev pub IsReadError : TantivyError → Type 0
IsReadError (DataCorruption name) = Unit {0}
IsReadError OpenReadError = Unit {0}
IsReadError OutOfMemory = Unit {0}
IsReadError _ = ⊥
