-- Clauses of a call that is the last one.
use Rattle.std.proofs.Common.{Result, Ok, Err}
use Rattle.std.specs.Prelude.{OnOk}

pub when_both_ok : {T E P Q R : Type 0} (r : Result T E) → OnOk r P → OnOk r Q → (P → Q → R) → OnOk r R
when_both_ok (Ok x) p q f = f p q
when_both_ok (Err e) p q f = tt
