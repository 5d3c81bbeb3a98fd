-- A number's digits, and those without their last zeros.
use Rattle.std.proofs.Common.{◌≡◌, ℕ, zero, suc, ◌+◌, ◌-◌, ◌/◌, ◌%◌, ◌<◌, ◌==◌, ◌&&◌, List, [], ◌∷◌, ◌++◌, Bool, true, false, append_assoc, refl, ap, arith}
use Rattle.std.specs.List.{list_all}
use Rattle.std.proofs.lemmas.Bool.Decides.{nat_tests}
use Rattle.seg_common.specs.DateDigits.{digits_text, without_last_zeros}

-- a last zero is left out, with the others at the end
all_zeros : (xs : List ℕ) → list_all (λ c. c == 48) (xs ++ 48 ∷ []) ≡ list_all (λ c. c == 48) xs
all_zeros [] = refl
all_zeros (x ∷ xs) = ap (λ b. (x == 48) && b) (all_zeros xs)

pub last_zero : (xs : List ℕ) → without_last_zeros (xs ++ 48 ∷ []) ≡ without_last_zeros xs
last_zero [] = refl
last_zero (x ∷ xs) = rw (all_zeros xs, last_zero xs)

not_zeros : (xs : List ℕ) (d : ℕ) → (d == 48) ≡ false → list_all (λ c. c == 48) (xs ++ d ∷ []) ≡ false
not_zeros [] d other = rw other
not_zeros (x ∷ xs) d other = by_first (x == 48) (not_zeros xs d other)
  where
    by_first : (b : Bool) {rest : Bool} → rest ≡ false → (b && rest) ≡ false
    by_first true e = e
    by_first false e = refl

-- with another digit at the end all stay
pub last_other : (xs : List ℕ) (d : ℕ) → (d == 48) ≡ false → without_last_zeros (xs ++ d ∷ []) ≡ xs ++ d ∷ []
last_other [] d other = rw other
last_other (x ∷ xs) d other = rw (not_zeros (x ∷ xs) d other, last_other xs d other)

-- a number's digits without their last zeros
pub zero_digit : (k n : ℕ) → n % 10 ≡ 0 → without_last_zeros (digits_text (suc k) n) ≡ without_last_zeros (digits_text k (n / 10))
zero_digit k n is = rw is (last_zero (digits_text k (n / 10)))

pub other_digit : (k n : ℕ) → (n % 10 ≡ 0 → ⊥) → without_last_zeros (digits_text (suc k) n) ≡ digits_text (suc k) n
other_digit k n other =
    let apart : ((48 + n % 10) == 48) ≡ false = grind (arith, nat_tests, other) in
    last_other (digits_text k (n / 10)) (48 + n % 10) apart

-- this many digits, the last of them apart
pub digits_next : (k n : ℕ) (out a b : List ℕ) → 0 < k → a ≡ out ++ digits_text (k - 1) (n / 10) → b ≡ a ++ (48 + n % 10) ∷ [] → b ≡ out ++ digits_text k n
digits_next zero n out a b some first last = absurd (omega arith)
digits_next (suc k) n out a b some first last =
    let e : suc k - 1 ≡ k = omega arith in
    rw (last, first, e) (simp append_assoc)
