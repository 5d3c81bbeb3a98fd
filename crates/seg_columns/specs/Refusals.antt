-- Why bytes aren't opened.
use Rattle.seg_columns.specs.declared.error.ColumnError.{ColumnError}
use Rattle.seg_columns.specs.declared.error.ColumnError.TheVariants.{Mixed, Malformed, OutOfMemory}

-- the bytes aren't what is asked for, or memory is lacking
abbrev pub Refuses : Type 0 → ColumnError → Type 0
Refuses Is Malformed = Is → ⊥
Refuses Is OutOfMemory = Unit {0}
Refuses Is Mixed = ⊥
