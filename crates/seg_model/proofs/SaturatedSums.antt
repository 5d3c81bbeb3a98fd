-- Sums that stay at the end of a u64.
use Rattle.std.proofs.Common.{◌≡◌, ℕ, ◌+◌, ◌-◌, ◌^◌, min, arith}
use Rattle.seg_model.specs.SaturatedNumbers.{saturated}

-- a sum that stays at its end tells of the whole
capped : (m a b c : ℕ) → min (min (a + min b m) m + c) m ≡ min (a + (b + c)) m
capped m a b c = omega arith

pub sum_on : (a b c : ℕ) → saturated (saturated (a + saturated b) + c) ≡ saturated (a + (b + c))
sum_on a b c = capped (2 ^ 64 - 1) a b c
