-- The bytes of columns, at most 2^64 - 1.
use Rattle.std.proofs.Common.{◌≡◌, ℕ, ◌+◌, ◌-◌, ◌^◌, ◌<◌, min, arith}

pub more : (total size rest all sum : ℕ) → min (2 ^ 64 - 1) (total + all) ≡ sum → all ≡ size + rest
    → min (2 ^ 64 - 1) (min (total + size) (2 ^ 64 - 1) + rest) ≡ sum
more total size rest all sum so_far step = omega (arith, so_far, step)

pub done : (total rest sum : ℕ) → total < 2 ^ 64 → rest ≡ 0 → min (2 ^ 64 - 1) (total + rest) ≡ sum → total ≡ sum
done total rest sum fits none all = omega (arith, fits, none, all)
