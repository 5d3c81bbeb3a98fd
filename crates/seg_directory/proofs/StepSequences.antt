-- Steps in turn, put together.
use Rattle.std.proofs.Common.{◌≡◌, List, [], ◌∷◌, ◌++◌, Result, Ok, Err, refl, inl, inr, subst, sym}
use Rattle.std.specs.Prelude.{IsErrAnd}
use Rattle.seg_directory.specs.StepSequences.{GoesOn, Does, DoesFor}

-- one step that went well
pub went : {S Step T E : Type 0} {goes : Step → S → S → Type 0} {breaks : Step → E → S → S → Type 0} {starved : E} {step : Step} {x : T} {a b : S}
    → goes step a b → Does goes breaks starved (step ∷ []) (Ok x) a b
went {b = b} here = record { on = inl (b, here, (refl, tt)) }

-- one step that broke off
pub broke : {S Step T E : Type 0} {goes : Step → S → S → Type 0} {breaks : Step → E → S → S → Type 0} {starved : E} {step : Step} {e : E} {a b : S}
    → breaks step e a b → Does {T = T} goes breaks starved (step ∷ []) (Err e) a b
broke here = record { on = inr (inr here) }

goes_on : {S Step T U E : Type 0} (goes : Step → S → S → Type 0) (breaks : Step → E → S → S → Type 0) (starved : E) (xs ys : List Step) (x : T) (r : Result U E) (a b c : S)
    → GoesOn goes breaks starved xs (Ok x) a b → GoesOn goes breaks starved ys r b c → GoesOn goes breaks starved (xs ++ ys) r a c
goes_on goes breaks starved [] ys x r a b c first next = subst (λ s. GoesOn goes breaks starved ys r s c) first.0 next
goes_on goes breaks starved (step ∷ xs) ys x r a b c first next = elim first [
  | inl w ↦ inl (w.0, w.1, goes_on goes breaks starved xs ys x r w.0 b c w.2 next)
  | inr h ↦ absurd h
]

-- steps after steps that all went well
pub then_does : {S Step T U E : Type 0} {goes : Step → S → S → Type 0} {breaks : Step → E → S → S → Type 0} {starved : E} {xs ys : List Step} {x : T} {r : Result U E} {a b c : S}
    → Does goes breaks starved xs (Ok x) a b → Does goes breaks starved ys r b c → Does goes breaks starved (xs ++ ys) r a c
then_does first next = record { on = goes_on _ _ _ _ _ _ _ _ _ _ first.on next.on }

-- no step, when out of memory
starves : {S Step E : Type 0} (goes : Step → S → S → Type 0) (breaks : Step → E → S → S → Type 0) (starved : E) (U : Type 0) (ys : List Step) (a b : S)
    → b ≡ a → GoesOn {T = U} goes breaks starved ys (Err starved) a b
starves goes breaks starved U [] a b same = (same, refl)
starves goes breaks starved U (y ∷ ys) a b same = inr (inl (refl, same))

stops_early : {S Step E : Type 0} (goes : Step → S → S → Type 0) (breaks : Step → E → S → S → Type 0) (starved : E) (T U : Type 0) (xs ys : List Step) (e : E) (a b : S)
    → GoesOn {T = T} goes breaks starved xs (Err e) a b → GoesOn {T = U} goes breaks starved (xs ++ ys) (Err e) a b
stops_early goes breaks starved T U [] ys e a b first = subst (λ d. GoesOn {T = U} goes breaks starved ys (Err d) a b) (sym first.1) (starves goes breaks starved U ys a b first.0)
stops_early goes breaks starved T U (step ∷ xs) ys e a b first = elim first [
  | inl w ↦ inl (w.0, w.1, stops_early goes breaks starved T U xs ys e w.0 b w.2)
  | inr h ↦ inr h
]

-- steps that broke off, before others
pub stops : {S Step T U E : Type 0} {goes : Step → S → S → Type 0} {breaks : Step → E → S → S → Type 0} {starved : E} {xs : List Step} (ys : List Step) {e : E} {a b : S}
    → Does {T = T} goes breaks starved xs (Err e) a b → Does {T = U} goes breaks starved (xs ++ ys) (Err e) a b
stops ys first = record { on = stops_early _ _ _ _ _ _ ys _ _ _ first.on }

-- nothing, when out of memory
pub does_nothing : {S Step T E : Type 0} {goes : Step → S → S → Type 0} {breaks : Step → E → S → S → Type 0} {starved : E} (steps : List Step) {a : S}
    → Does {T = T} goes breaks starved steps (Err starved) a a
does_nothing steps = record { on = starves _ _ _ _ steps _ _ refl }

-- another answer at Ok
pub answers : {S Step T U E : Type 0} {goes : Step → S → S → Type 0} {breaks : Step → E → S → S → Type 0} {starved : E} {steps : List Step} {x : T} {y : U} {a b : S}
    → Does goes breaks starved steps (Ok x) a b → Does goes breaks starved steps (Ok y) a b
answers d = record { on = answers_on _ _ _ _ _ _ _ _ d.on } where
  answers_on : {S Step T U E : Type 0} (goes : Step → S → S → Type 0) (breaks : Step → E → S → S → Type 0) (starved : E) (steps : List Step) (x : T) (y : U) (a b : S)
      → GoesOn goes breaks starved steps (Ok x) a b → GoesOn goes breaks starved steps (Ok y) a b
  answers_on goes breaks starved [] x y a b h = (h.0, tt)
  answers_on goes breaks starved (step ∷ steps) x y a b h = elim h [
    | inl w ↦ inl (w.0, w.1, answers_on goes breaks starved steps x y w.0 b w.2)
    | inr h ↦ absurd h
  ]

-- the same at the exit of a `?`
pub stops_at : {S Step T U E : Type 0} {goes : Step → S → S → Type 0} {breaks : Step → E → S → S → Type 0} {starved : E} {xs : List Step} (ys : List Step) {e : E} (r : Result U E) {a b : S}
    → IsErrAnd r (λ d. d ≡ e) → Does {T = T} goes breaks starved xs (Err e) a b → Does {T = U} goes breaks starved (xs ++ ys) r a b
stops_at ys (Ok x) is first = absurd is
stops_at {U = U} {goes = goes} {breaks = breaks} {starved = starved} {xs = xs} ys (Err d) {a = a} {b = b} is first =
    subst (λ e. Does {T = U} goes breaks starved (xs ++ ys) (Err e) a b) (sym is) (stops ys first)

-- out of memory at the exit of a `?`
pub starves_at : {S Step U E : Type 0} {goes : Step → S → S → Type 0} {breaks : Step → E → S → S → Type 0} {starved : E} (steps : List Step) (r : Result U E) {a : S}
    → IsErrAnd r (λ d. d ≡ starved) → Does {T = U} goes breaks starved steps r a a
starves_at steps (Ok x) is = absurd is
starves_at {U = U} {goes = goes} {breaks = breaks} {starved = starved} steps (Err d) {a = a} is =
    subst (λ e. Does {T = U} goes breaks starved steps (Err e) a a) (sym is) (does_nothing steps)

-- steps that depend on what is answered, at an answer
pub for_ok : {S Step T E : Type 0} {goes : Step → S → S → Type 0} {breaks : Step → E → S → S → Type 0} {starved : E} {steps : T → List Step} {x : T} {a b : S}
    → Does goes breaks starved (steps x) (Ok x) a b → DoesFor goes breaks starved steps (Ok x) a b
for_ok d = record { does = d }

-- and at the exit of a `?`
pub for_at : {S Step T E : Type 0} {goes : Step → S → S → Type 0} {breaks : Step → E → S → S → Type 0} {starved : E} {steps : T → List Step} (x : T) {e : E} (r : Result T E) {a b : S}
    → IsErrAnd r (λ d. d ≡ e) → Does {T = T} goes breaks starved (steps x) (Err e) a b → DoesFor goes breaks starved steps r a b
for_at x (Ok y) is d = absurd is
for_at {T = T} {goes = goes} {breaks = breaks} {starved = starved} {steps = steps} x (Err f) {a = a} {b = b} is d =
    subst (λ e. DoesFor {T = T} goes breaks starved steps (Err e) a b) (sym is) (record { does = (x, d) })

-- such steps after steps that all went well, where the last result is handed on
pub then_for : {S Step T U E : Type 0} {goes : Step → S → S → Type 0} {breaks : Step → E → S → S → Type 0} {starved : E} {xs : List Step} {steps : T → List Step} {y : U} (r : Result T E) {a b c : S}
    → Does goes breaks starved xs (Ok y) a b → DoesFor goes breaks starved steps r b c → DoesFor goes breaks starved (λ x. xs ++ steps x) r a c
then_for (Ok x) first next = record { does = then_does first next.does }
then_for (Err e) first next = record { does = (next.does.0, then_does first next.does.1) }

split_on : {S Step T E : Type 0} (goes : Step → S → S → Type 0) (breaks : Step → E → S → S → Type 0) (starved : E) (xs ys : List Step) (x : T) (a c : S)
    → GoesOn goes breaks starved (xs ++ ys) (Ok x) a c → (b : S) × GoesOn goes breaks starved xs (Ok x) a b × GoesOn goes breaks starved ys (Ok x) b c
split_on goes breaks starved [] ys x a c h = (a, (refl, tt), h)
split_on goes breaks starved (step ∷ xs) ys x a c h = elim h [
  | inl w ↦ (let s = split_on goes breaks starved xs ys x w.0 c w.2 in (s.0, inl (w.0, w.1, s.1), s.2))
  | inr no_error ↦ absurd no_error
]

-- steps that all went well, in two parts
pub split_does : {S Step T E : Type 0} {goes : Step → S → S → Type 0} {breaks : Step → E → S → S → Type 0} {starved : E} (xs ys : List Step) {x : T} {a c : S}
    → Does goes breaks starved (xs ++ ys) (Ok x) a c → (b : S) × Does goes breaks starved xs (Ok x) a b × Does goes breaks starved ys (Ok x) b c
split_does xs ys d = let s = split_on _ _ _ xs ys _ _ _ d.on in (s.0, record { on = s.1 }, record { on = s.2 })
