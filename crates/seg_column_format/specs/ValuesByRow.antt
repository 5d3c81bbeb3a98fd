-- Values by their rows.
use Rattle.std.specs.Prelude.{ℕ, ◌≤◌, ◌==◌, List, [], ◌∷◌, map, filter}
use Rattle.std.specs.List.{range_with_len}

module _ {V : Type 0} (row : V → ℕ) where
  -- rows don't fall, from one on
  abbrev pub Rise : ℕ → List V → Type 0
  Rise low [] = Unit {0}
  Rise low (v ∷ vs) = (low ≤ row v) × Rise (row v) vs

  -- the values of a row
  abbrev pub of_row : List V → ℕ → List V
  of_row values r = filter (λ v. row v == r) values

  -- the values of each of this many rows, from one on
  abbrev pub rows_from : ℕ → ℕ → List V → List (List V)
  rows_from low count values = map (of_row values) (range_with_len low count)
