-- The terms of a JSON field, as they are and as they are kept.
use Rattle.std.specs.Prelude.{◌≡◌, ◌<◌, ◌^◌, ℕ, List, [], ◌∷◌, ◌++◌, drop}
use Rattle.std.specs.Int.{w32, to_le_bytes, from_le_bytes}
use Rattle.std.specs.List.{slice_index_or}
use Rattle.seg_model.specs.DocumentTerms.{Terms}

-- the paths of a field, by their numbers, and its terms
pub record TermsOnPaths : Type 0 where
  pub paths : List (List ℕ)
  pub terms : Terms

-- what is kept of a term: the number of its path, and what is after the path and the byte 0
unfoldable pub path_key : ℕ → List ℕ → List ℕ
path_key number rest = to_le_bytes w32 number ++ rest

-- the number of the path of a key
unfoldable pub key_path : List ℕ → ℕ
key_path key = from_le_bytes w32 key

-- the term of a key
abbrev pub term_on : List (List ℕ) → List ℕ → List ℕ
term_on paths key = slice_index_or paths (key_path key) [] ++ 0 ∷ drop 4 key

-- the number in a key is that of one of this many paths
pub record IsPathKey (count : ℕ) (key : List ℕ) : Type 0 where
  pub number : ℕ
  pub rest : List ℕ
  pub is : key ≡ path_key number rest
  pub within : number < count
  pub small : number < 2 ^ 32

-- what the terms of keys are ordered by: the rank of the path, and then the rest
abbrev pub ranked : List ℕ → List ℕ → List ℕ
ranked ranks key = slice_index_or ranks (key_path key) 0 ∷ drop 4 key
