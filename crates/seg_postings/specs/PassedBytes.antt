-- Bytes of which the front is passed over.
use Rattle.std.specs.Prelude.{◌≡◌, ℕ, List, Option, Some, None}

-- what is at the front, and these bytes are left
pub record Passed {A : Type 0} (read : List ℕ → Option (A × List ℕ)) (bytes rest : List ℕ) : Type 0 where
  pub value : A
  pub is : read bytes ≡ Some (value, rest)

-- what is at the front was passed, or nothing is there
abbrev pub Passes : {A B : Type 0} → (List ℕ → Option (A × List ℕ)) → List ℕ → List ℕ → Option B → Type 0
Passes read bytes rest (Some done) = Passed read bytes rest
Passes read bytes rest None = read bytes ≡ None
