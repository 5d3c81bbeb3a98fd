-- Which ordinals the rows that are kept have.
use Rattle.std.specs.Prelude.{◌≡◌, ℕ, ◌<◌, Bool, false, List, length, get_or, nat_eq}
use Rattle.std.specs.List.{list_any}

-- a mark for each ordinal below a count, which tells whether it is among some
pub record AreUsed (count : ℕ) (ords : List ℕ) (used : List Bool) : Type 0 where
  pub long : length used ≡ count
  pub marks : (ord : ℕ) → ord < count → get_or used ord false ≡ list_any (nat_eq ord) ords
