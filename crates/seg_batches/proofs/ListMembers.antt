-- The members of a list by their places.
use Rattle.std.proofs.Common.{◌≡◌, ℕ, zero, suc, ◌<◌, ◌≤◌, List, [], ◌∷◌, length, Some, None, refl, sym, arith}
use Rattle.std.specs.List.{slice_get}
use Rattle.std.proofs.lemmas.Option.{none-some}

module _ {X : Type 0} where
  pub there : (xs : List X) (i : ℕ) → i < length xs → (x : X) × (slice_get xs i ≡ Some x)
  there [] i lt = absurd (omega (arith, lt))
  there (x ∷ xs) zero lt = (x, refl)
  there (x ∷ xs) (suc i) lt = there xs i (omega (arith, lt))

  pub not_within : (xs : List X) (i : ℕ) → slice_get xs i ≡ None → length xs ≤ i
  not_within [] i none = omega arith
  not_within (x ∷ xs) zero none = absurd (none-some x (sym none))
  not_within (x ∷ xs) (suc i) none = omega (arith, not_within xs i none)
