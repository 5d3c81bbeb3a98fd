-- Shares of a size that are rounded down: how far they are from it together.
use Rattle.std.proofs.Common.{◌≡◌, ℕ, suc, ◌+◌, ◌*◌, ◌/◌, ◌<◌, ◌≤◌, List, [], ◌∷◌, length, sym, subst, arith}
use Rattle.std.specs.List.{sum_by}
use Rattle.std.proofs.Math.Nat.{le_of_mul-le-mul_right, lt_of_mul-lt-mul_right, mod-lt}
use Rattle.std.proofs.lemmas.Nat.{div-add-mod'}
use Rattle.std.proofs.lemmas.List.Sums.{sum_by-cons}

module _ {S : Type 0} (number : S → ℕ) (size all : ℕ) (some : 0 < all) where
  abbrev part : S → ℕ
  part s = (size * number s) / all

  most : (ss : List S) → sum_by part ss * all ≤ size * sum_by number ss
  most [] = omega arith
  most (s ∷ ss) =
      let one = div-add-mod' (size * number s) all in
      let rest = most ss in
      subst (λ (n : ℕ). n * all ≤ size * sum_by number (s ∷ ss)) (sym (sum_by-cons part s ss))
      (subst (λ (n : ℕ). (part s + sum_by part ss) * all ≤ size * n) (sym (sum_by-cons number s ss)) (omega (arith, one, rest)))

  least : (ss : List S) → size * sum_by number ss + length ss ≤ (sum_by part ss + length ss) * all
  least [] = omega arith
  least (s ∷ ss) =
      let one = div-add-mod' (size * number s) all in
      let below = mod-lt (size * number s) some in
      let rest = least ss in
      subst (λ (n : ℕ). size * sum_by number (s ∷ ss) + suc (length ss) ≤ (n + suc (length ss)) * all) (sym (sum_by-cons part s ss))
      (subst (λ (n : ℕ). size * n + suc (length ss) ≤ (part s + sum_by part ss + suc (length ss)) * all) (sym (sum_by-cons number s ss))
      (omega (arith, one, below, rest)))

  module _ (ss : List S) (whole : all ≡ sum_by number ss) where
    pub shares_most : sum_by part ss ≤ size
    shares_most = le_of_mul-le-mul_right (subst (λ (n : ℕ). sum_by part ss * all ≤ size * n) (sym whole) (most ss)) some

    pub shares_least : 0 < length ss → size < sum_by part ss + length ss
    shares_least there =
        let near = subst (λ (n : ℕ). size * n + length ss ≤ (sum_by part ss + length ss) * all) (sym whole) (least ss) in
        lt_of_mul-lt-mul_right all (omega (arith, near, there))
