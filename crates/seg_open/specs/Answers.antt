-- Results, by what is seen of their answers.
use Rattle.std.specs.Prelude.{Result, Ok, Err}

-- a result, by what is seen of its answer
abbrev pub seen_as : {T U E : Type 0} → (T → U) → Result T E → Result U E
seen_as f (Ok x) = Ok (f x)
seen_as f (Err e) = Err e
