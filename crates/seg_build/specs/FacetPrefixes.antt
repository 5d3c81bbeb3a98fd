-- The prefixes of a facet, step by step.
use Rattle.std.specs.Prelude.{ℕ, zero, List, [], ◌∷◌, take, Option, Some}
use Rattle.std.specs.List.{slice_get}

-- these bytes, where a byte 0 comes after them
abbrev pub ended : List ℕ → Option ℕ → List (List ℕ)
ended before (Some zero) = before ∷ []
ended before _ = []

-- the prefix of a facet that ends before a place, if a step ends there
abbrev pub prefix_at : List ℕ → ℕ → List (List ℕ)
prefix_at encoded at = ended (take at encoded) (slice_get encoded at)
