-- Numbers that stay at the end of a u64.
use Rattle.std.specs.Prelude.{ℕ, ◌-◌, ◌^◌, min}

-- a number as it is kept
abbrev pub saturated : ℕ → ℕ
saturated n = min n (2 ^ 64 - 1)
