-- What is left in places, of which some are empty.
use Rattle.std.proofs.Common.{◌≡◌, ℕ, zero, suc, ◌<◌, List, [], ◌∷◌, ◌++◌, map, take, drop, set, get_or, length, Option, Some, None, refl, ap, arith}
use Rattle.std.specs.List.{AllByRecursion}
use Rattle.std.proofs.lemmas.Option.{none-some}

module _ {X : Type 0} where
  abbrev pub present : List (Option X) → List X
  present [] = []
  present (None ∷ slots) = present slots
  present (Some x ∷ slots) = x ∷ present slots

  pub all_present : (xs : List X) → present (map Some xs) ≡ xs
  all_present [] = refl
  all_present (x ∷ xs) = ap (λ (l : List X). x ∷ l) (all_present xs)

  pub none_present : (slots : List (Option X)) → ((i : ℕ) (x : X) → get_or slots i None ≡ Some x → ⊥) → present slots ≡ []
  none_present [] none = refl
  none_present (None ∷ slots) none = none_present slots (λ i x is. none (suc i) x is)
  none_present (Some x ∷ slots) none = absurd (none 0 x refl)

  -- what is at a place is between what is before it and after it
  pub cut_at : (slots : List (Option X)) (at : ℕ) (x : X) → get_or slots at None ≡ Some x
      → present slots ≡ present (take at slots) ++ x ∷ present (drop (suc at) slots)
  cut_at [] at x is = absurd (none-some x is)
  cut_at (o ∷ slots) zero x is = ap (λ (p : Option X). present (p ∷ slots)) is
  cut_at (None ∷ slots) (suc at) x is = cut_at slots at x is
  cut_at (Some y ∷ slots) (suc at) x is = ap (λ (l : List X). y ∷ l) (cut_at slots at x is)

  -- and they are left where it was taken
  pub taken_at : (slots : List (Option X)) (at : ℕ) (x : X) → get_or slots at None ≡ Some x
      → present (set slots at None) ≡ present (take at slots) ++ present (drop (suc at) slots)
  taken_at [] at x is = absurd (none-some x is)
  taken_at (o ∷ slots) zero x is = refl
  taken_at (None ∷ slots) (suc at) x is = taken_at slots at x is
  taken_at (Some y ∷ slots) (suc at) x is = ap (λ (l : List X). y ∷ l) (taken_at slots at x is)

  pub in_front : (P : X → Type 0) (slots : List (Option X)) (at : ℕ)
      → ((i : ℕ) (x : X) → i < at → get_or slots i None ≡ Some x → P x) → AllByRecursion P (present (take at slots))
  in_front P slots zero each = tt
  in_front P [] (suc at) each = tt
  in_front P (None ∷ slots) (suc at) each = in_front P slots at (λ i x lt is. each (suc i) x (omega (arith, lt)) is)
  in_front P (Some y ∷ slots) (suc at) each =
      (each 0 y (omega arith) refl, in_front P slots at (λ i x lt is. each (suc i) x (omega (arith, lt)) is))

  pub still_there : (slots : List (Option X)) (at i : ℕ) (x : X) → get_or (set slots at None) i None ≡ Some x
      → (i ≡ at → ⊥) × (get_or slots i None ≡ Some x)
  still_there [] at i x is = absurd (none-some x is)
  still_there (o ∷ slots) zero zero x is = absurd (none-some x is)
  still_there (o ∷ slots) zero (suc i) x is = ((λ same. omega (arith, same)), is)
  still_there (o ∷ slots) (suc at) zero x is = ((λ same. omega (arith, same)), is)
  still_there (o ∷ slots) (suc at) (suc i) x is =
      let (other, there) = still_there slots at i x is in
      ((λ same. other (omega (arith, same))), there)

  pub some_at : (xs : List X) (at : ℕ) → at < length xs → (x : X) × (get_or (map Some xs) at None ≡ Some x)
  some_at [] at lt = absurd (omega (arith, lt))
  some_at (x ∷ xs) zero lt = (x, refl)
  some_at (x ∷ xs) (suc at) lt = some_at xs at (omega (arith, lt))
