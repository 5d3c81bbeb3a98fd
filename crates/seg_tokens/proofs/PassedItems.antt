-- What is true of each item that a loop has passed, and of all at its end.
use Rattle.std.proofs.Common.{◌≡◌, ℕ, zero, suc, ◌+◌, ◌<◌, ◌≤◌, List, [], ◌∷◌, length, get_or, subst, arith}
use Rattle.std.specs.List.{AllByRecursion}
use Rattle.std.proofs.lemmas.List.Elements.{recursion_from_All}

module _ {X : Type 0} (P : X → Type 0) where
  pub one_more : (xs : List X) (i : ℕ) (x : X) → i < length xs → x ≡ get_or xs i x → P x → ((k : ℕ) (d : X) → k < i → P (get_or xs k d)) → (k : ℕ) (d : X) → k < i + 1 → P (get_or xs k d)
  one_more [] i x h is p before k d l = absurd (omega arith)
  one_more (a ∷ xs) zero x h is p before zero d l = subst P is p
  one_more (a ∷ xs) zero x h is p before (suc k) d l = absurd (omega arith)
  one_more (a ∷ xs) (suc i) x h is p before zero d l = before zero d (omega arith)
  one_more (a ∷ xs) (suc i) x h is p before (suc k) d l = one_more xs i x (omega arith) is p (λ k d l. before (suc k) d (omega arith)) k d (omega arith)

  pub all_passed : (xs : List X) (i : ℕ) → length xs ≤ i → ((k : ℕ) (d : X) → k < i → P (get_or xs k d)) → AllByRecursion P xs
  all_passed xs i h passed = recursion_from_All P xs (λ k d l. passed k d (omega arith))
