-- Elements within lists.
use Rattle.std.proofs.Common.{◌≡◌, ℕ, zero, suc, ◌<◌, List, [], ◌∷◌, Some, length, refl, arith}
use Rattle.std.specs.List.{slice_get}

-- an element within a list
pub record IsElement {X : Type 0} (xs : List X) (i : ℕ) : Type 0 where
  pub element : X
  pub at : slice_get xs i ≡ Some element

pub element_at : {X : Type 0} (xs : List X) (i : ℕ) → i < length xs → IsElement xs i
element_at [] i lt = absurd (omega arith)
element_at (x ∷ xs) zero lt = record { element = x; at = refl }
element_at (x ∷ xs) (suc i) lt = let rest = element_at xs i (omega arith) in record { element = rest.element; at = rest.at }
