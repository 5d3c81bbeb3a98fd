-- Bytes of which the front is passed over.
use Rattle.std.specs.Prelude.{◌≡◌, ◌==◌, ℕ, List, [], ◌∷◌, Bool, false, Option, Some, None}
use Rattle.seg_doc_bytes.specs.FrontReaders.{Reader}

-- what is at the front, and these are left
pub record Passed {A : Type 0} (read : Reader A) (bytes rest : List ℕ) : Type 0 where
  pub value : A
  pub is : read bytes ≡ Some (value, rest)

-- what is at the front was passed, or nothing is there
abbrev pub Passes : {A B : Type 0} → Reader A → List ℕ → List ℕ → Option B → Type 0
Passes read bytes rest (Some done) = Passed read bytes rest
Passes read bytes rest None = read bytes ≡ None

-- whether bytes begin with a byte
abbrev pub begins_with : ℕ → List ℕ → Bool
begins_with byte [] = false
begins_with byte (b ∷ bytes) = b == byte
