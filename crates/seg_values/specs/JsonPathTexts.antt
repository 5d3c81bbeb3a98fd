-- The keys that the text of a JSON path names.
use Rattle.std.specs.Prelude.{ℕ, List, [], ◌∷◌, ◌++◌, ◌==◌, ◌&&◌, if◌then◌else◌}

-- bytes before the first key
abbrev pub before_first : List ℕ → List (List ℕ) → List (List ℕ)
before_first bytes [] = bytes ∷ []
before_first bytes (key ∷ keys) = (bytes ++ key) ∷ keys

-- the keys of a text: it is cut at each dot that no backslash precedes, and a backslash with a dot is a dot
abbrev pub keys_in : List ℕ → List (List ℕ)
keys_in [] = [] ∷ []
keys_in (b ∷ []) = if b == 46 then [] ∷ [] ∷ [] else (b ∷ []) ∷ []
keys_in (b ∷ c ∷ text) =
    if (b == 92) && (c == 46) then before_first (46 ∷ []) (keys_in text)
    else if b == 46 then [] ∷ keys_in (c ∷ text)
    else before_first (b ∷ []) (keys_in (c ∷ text))

-- the keys of a path; the empty text is the empty path
abbrev pub path_keys : List ℕ → List (List ℕ)
path_keys [] = []
path_keys (b ∷ text) = keys_in (b ∷ text)
