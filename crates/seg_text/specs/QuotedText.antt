-- Texts between quotes.
use Rattle.std.specs.Prelude.{ℕ, Bool, not, ◌&&◌, ◌==◌, nat_le}

-- a byte that stands for itself between quotes: no control character, quote or backslash
abbrev pub is_unescaped : ℕ → Bool
is_unescaped b = nat_le 32 b && not (b == 34) && not (b == 92)
