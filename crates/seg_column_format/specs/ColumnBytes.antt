-- The bytes of a column, from the values of each row.
use Rattle.std.specs.Prelude.{◌≡◌, ℕ, ◌+◌, List, [], ◌∷◌, ◌++◌, length, Option, Some}
use Rattle.std.specs.List.{flat_map}
use Rattle.std.specs.Int.{w64, to_le_bytes}

-- where each part ends, counted in items that come after this many others
abbrev pub ends_from : {X : Type 0} → ℕ → List (List X) → List ℕ
ends_from before [] = []
ends_from before (part ∷ parts) = (before + length part) ∷ ends_from (before + length part) parts

-- how many items the parts have together
abbrev pub total : {X : Type 0} → List (List X) → ℕ
total [] = 0
total (part ∷ parts) = length part + total parts

-- eight bytes for each number
abbrev pub number_bytes : List ℕ → List ℕ
number_bytes numbers = flat_map (to_le_bytes w64) numbers

-- a value has this many bytes, which are read as what is seen of it
pub record IsReadAs {S T : Type 0} (width : ℕ) (decoded : List ℕ → Option T) (encoded : S → List ℕ) (seen : S → T)
    (value : S) : Type 0 where
  pub wide : length (encoded value) ≡ width
  pub read : decoded (encoded value) ≡ Some (seen value)

-- and it is read back
abbrev pub IsReadBack : {T : Type 0} → ℕ → (List ℕ → Option T) → (T → List ℕ) → T → Type 0
IsReadBack width decoded encoded value = IsReadAs width decoded encoded (λ v. v) value

-- how many values there are up to and including each row, and then the values
unfoldable pub column_bytes : {T : Type 0} → (T → List ℕ) → List (List T) → List ℕ
column_bytes encoded rows = number_bytes (ends_from 0 rows) ++ flat_map (flat_map encoded) rows

-- how many terms there are, where each ends, and their bytes
unfoldable pub dictionary_bytes : List (List ℕ) → List ℕ
dictionary_bytes terms =
    to_le_bytes w64 (length terms) ++ (number_bytes (ends_from 0 terms) ++ flat_map (λ term. term) terms)

-- the ordinals of each row's values, and the dictionary
unfoldable pub term_column_bytes : List (List ℕ) → List (List ℕ) → List ℕ
term_column_bytes ords terms = column_bytes (to_le_bytes w64) ords ++ dictionary_bytes terms
