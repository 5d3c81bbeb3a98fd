-- What calls answer.
use Rattle.std.specs.Prelude.{IfOk, OnOk, Result, Ok, Err}

pub if_ok_so : {T E : Type 0} (r : Result T E) {P R : T → Type 0} → IfOk r P → ((x : T) → P x → R x) → IfOk r R
if_ok_so (Ok x) p f = f x p
if_ok_so (Err e) p f = tt

pub on_ok_so : {T E : Type 0} (r : Result T E) {P Q : Type 0} → OnOk r P → (P → Q) → OnOk r Q
on_ok_so (Ok x) p f = f p
on_ok_so (Err e) p f = tt
