-- Ends that rise.
use Rattle.std.proofs.Common.{◌≡◌, ℕ, zero, suc, ◌+◌, ◌-◌, ◌≤◌, List, subst, arith}
use Rattle.seg_columns.specs.Ends.{start_at, EndsRise}

module _ (ends : List ℕ) (count : ℕ) (rise : EndsRise ends count) where
  rising : (i k : ℕ) → i + k ≤ count → start_at ends i ≤ start_at ends (i + k)
  rising i zero h = let e : i + 0 ≡ i = omega arith in rw e (omega arith)
  rising i (suc k) h =
      let e : i + suc k ≡ i + k + 1 = omega arith in
      rw e (omega (arith, rising i k (omega (arith, h)), rise (i + k) (omega (arith, h))))

  -- no part begins after the end of all
  pub at_most_all : (i : ℕ) → i ≤ count → start_at ends i ≤ start_at ends count
  at_most_all i h =
      let e : i + (count - i) ≡ count = omega arith in
      subst (λ (n : ℕ). start_at ends i ≤ start_at ends n) e (rising i (count - i) (omega (arith, h, e)))
