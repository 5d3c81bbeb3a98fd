-- Numbers below a limit.
use Rattle.std.proofs.Common.{◌≡◌, ℕ, zero, suc, ◌+◌, ◌<◌, ◌≤◌, List, [], ◌∷◌, true, nat_lt, get_or, refl, arith}
use Rattle.std.specs.List.{list_all, range_with_len}
use Rattle.std.proofs.lemmas.Bool.Decides.{nat_tests}

below : (limit n : ℕ) → n < limit → nat_lt n limit ≡ true
below limit n h = grind (arith, nat_tests)

-- each number of a list
pub all_below : (limit : ℕ) (ns : List ℕ) → ((i : ℕ) → get_or ns i 0 < limit) → list_all (λ n. nat_lt n limit) ns ≡ true
all_below limit [] h = refl
all_below limit (n ∷ ns) h = rw (below limit n (h 0)) (all_below limit ns (λ i. h (suc i)))

-- each number of a range
pub range_below : (limit first count : ℕ) → first + count ≤ limit → list_all (λ n. nat_lt n limit) (range_with_len first count) ≡ true
range_below limit first zero h = refl
range_below limit first (suc count) h = rw (below limit first (omega (arith, h))) (range_below limit (first + 1) count (omega (arith, h)))
