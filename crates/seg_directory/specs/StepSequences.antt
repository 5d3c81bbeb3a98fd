-- Steps in turn, up to the first that fails.
use Rattle.std.specs.Prelude.{◌≡◌, ◌⊎◌, List, [], ◌∷◌, Result, Ok, Err, IsErrAnd, IsOkUnless}

-- a step breaks off, or there is no memory before it
abbrev pub BreaksOff : {S Step E : Type 0} → (Step → E → S → S → Type 0) → E → Step → E → S → S → Type 0
BreaksOff breaks starved step e before after = ((e ≡ starved) × (after ≡ before)) ⊎ breaks step e before after

-- each step goes well from where the last one led, up to the end or to the first that breaks off
abbrev pub GoesOn : {S Step T E : Type 0} → (Step → S → S → Type 0) → (Step → E → S → S → Type 0) → E
    → List Step → Result T E → S → S → Type 0
GoesOn goes breaks starved [] result before after = (after ≡ before) × IsOkUnless result starved
GoesOn {S = S} goes breaks starved (step ∷ steps) result before after =
    ((between : S) × goes step before between × GoesOn goes breaks starved steps result between after)
    ⊎ IsErrAnd result (λ e. BreaksOff breaks starved step e before after)

-- the same as a record, so that what it is about is seen
pub record Does {S Step T E : Type 0} (goes : Step → S → S → Type 0) (breaks : Step → E → S → S → Type 0) (starved : E)
    (steps : List Step) (result : Result T E) (before after : S) : Type 0 where
  pub on : GoesOn goes breaks starved steps result before after

-- steps that depend on what is answered: these at Ok, and some of them where they break off
abbrev pub GoesOnFor : {S Step T E : Type 0} → (Step → S → S → Type 0) → (Step → E → S → S → Type 0) → E
    → (T → List Step) → Result T E → S → S → Type 0
GoesOnFor goes breaks starved steps (Ok x) before after = Does goes breaks starved (steps x) (Ok x) before after
GoesOnFor {T = T} goes breaks starved steps (Err e) before after = (x : T)
    × Does {T = T} goes breaks starved (steps x) (Err e) before after

-- the same as a record
pub record DoesFor {S Step T E : Type 0} (goes : Step → S → S → Type 0) (breaks : Step → E → S → S → Type 0)
    (starved : E) (steps : T → List Step) (result : Result T E) (before after : S) : Type 0 where
  pub does : GoesOnFor goes breaks starved steps result before after
