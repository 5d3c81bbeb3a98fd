-- The size of texts is the sum of the sizes of their parts, also in numbers that stay at their end.
use Rattle.std.proofs.Common.{◌≡◌, ℕ, ◌+◌, ◌-◌, ◌^◌, ◌≤◌, min, Bool, true, false, cond, List, [], ◌∷◌, ◌++◌, length, Some, None, Option, refl, sym, ap, ◌∙◌, arith}
use Rattle.std.specs.Prelude.{◌&&◌, nat_lt}
use Rattle.std.proofs.lemmas.Bool.Decides.{nat_tests}
use Rattle.std.proofs.lemmas.List.Folds.{list_all-append}
use Rattle.seg_tokens.specs.declared.token.Token.{Token}
use Rattle.seg_model.specs.DocumentCheck.{is_u32, is_rising, count_of}
use Rattle.seg_model.specs.Occurrences.{counted, reach, start_after, start_after_all}
use Rattle.seg_model.specs.SaturatedNumbers.{saturated}
use Rattle.seg_check.specs.TextSizes.{size_of, plus, all_rise, measured, both}
use Rattle.seg_check.specs.declared.size.TextSize.{TextSize}

reach-from : (start : ℕ) (ts : List Token) → reach start ts ≡ start + reach 0 ts
reach-from start [] = omega arith
reach-from start (t ∷ ts) = omega (arith, reach-from start ts)

pub start-from : (start : ℕ) (texts : List (List Token)) → start_after_all start texts ≡ start + start_after_all 0 texts
start-from start [] = omega arith
start-from start (t ∷ ts) = omega (arith, start-from (start_after start t) ts, start-from (start_after 0 t) ts, reach-from start (counted t))

start-append : (start : ℕ) (xs ys : List (List Token)) → start_after_all start (xs ++ ys) ≡ start_after_all start xs + start_after_all 0 ys
start-append start [] ys = start-from start ys
start-append start (x ∷ xs) ys = start-append (start_after start x) xs ys

pub starts-add : (xs ys : List (List Token)) → start_after_all 0 (xs ++ ys) ≡ start_after_all 0 xs + start_after_all 0 ys
starts-add xs ys = start-append 0 xs ys

pub counts-add : (xs ys : List (List Token)) → count_of (xs ++ ys) ≡ count_of xs + count_of ys
counts-add [] ys = omega arith
counts-add (x ∷ xs) ys = omega (arith, counts-add xs ys)

-- each text takes a place
texts-from : (start : ℕ) (xs : List (List Token)) → length xs + start ≤ start_after_all start xs
texts-from start [] = omega arith
texts-from start (x ∷ xs) = omega (arith, texts-from (start_after start x) xs, reach-from start (counted x))

pub texts-le : (xs : List (List Token)) → length xs ≤ start_after_all 0 xs
texts-le xs = omega (arith, texts-from 0 xs)

capped-sum : (m a b : ℕ) → min (a + b) m ≡ min (min a m + min b m) m
capped-sum m a b = omega arith

pub saturated-sum : (a b : ℕ) → saturated (a + b) ≡ saturated (saturated a + saturated b)
saturated-sum a b = capped-sum (2 ^ 64 - 1) a b

capped-one : (m a : ℕ) → min (a + 1) m ≡ min (min a m + 1) m
capped-one m a = omega arith

pub saturated-one : (a : ℕ) → saturated (a + 1) ≡ saturated (saturated a + 1)
saturated-one a = capped-one (2 ^ 64 - 1) a

pub size-add : (xs ys : List (List Token)) → size_of (xs ++ ys) ≡ plus (size_of xs) (size_of ys)
size-add xs ys =
    let widths = ap saturated (starts-add xs ys) ∙ saturated-sum (start_after_all 0 xs) (start_after_all 0 ys) in
    let counts = ap saturated (counts-add xs ys) ∙ saturated-sum (count_of xs) (count_of ys) in
    λ i. record { width = widths i; tokens = counts i }

less-capped : (n k m : ℕ) → k ≤ m → nat_lt (min n m) k ≡ nat_lt n k
less-capped n k m le = by_case (nat_lt n k) refl
  where
    by_case : (b : Bool) → nat_lt n k ≡ b → nat_lt (min n m) k ≡ nat_lt n k
    by_case true e = let all : nat_lt (min n m) k ≡ true = grind (arith, nat_tests) in all ∙ sym e
    by_case false e = let all : nat_lt (min n m) k ≡ false = grind (arith, nat_tests) in all ∙ sym e

-- a u32 is told by the number that is kept
pub fits-kept : (n : ℕ) → is_u32 (saturated n) ≡ is_u32 n
fits-kept n = less-capped n (2 ^ 32) (2 ^ 64 - 1) (omega arith)

pub fits-less : (n k : ℕ) → n ≤ k → is_u32 k ≡ true → is_u32 n ≡ true
fits-less n k le h = below n k (2 ^ 32) le h
  where
    below : (n k m : ℕ) → n ≤ k → nat_lt k m ≡ true → nat_lt n m ≡ true
    below n k m le h = grind (arith, nat_tests)

rise-add : (xs ys : List (List Token)) → all_rise (xs ++ ys) ≡ (all_rise xs && all_rise ys)
rise-add xs ys = list_all-append (λ tokens. is_rising (counted tokens)) xs ys

pub measured-add : (xs ys : List (List Token)) → measured (xs ++ ys) ≡ both (measured xs) (measured ys)
measured-add xs ys = by_cases (all_rise xs) (all_rise ys) refl refl
  where
    sized : Bool → List (List Token) → Option TextSize
    sized b texts = cond b (Some (size_of texts)) None

    by_cases : (a b : Bool) → all_rise xs ≡ a → all_rise ys ≡ b → measured (xs ++ ys) ≡ both (measured xs) (measured ys)
    by_cases a b is_a is_b =
        ap (λ c. sized c (xs ++ ys)) (rise-add xs ys ∙ ap (λ c. c && all_rise ys) is_a ∙ ap (λ c. a && c) is_b)
        ∙ split a b
        ∙ ap (λ c. both (sized c xs) (sized b ys)) (sym is_a) ∙ ap (λ c. both (measured xs) (sized c ys)) (sym is_b)
      where
        split : (a b : Bool) → sized (a && b) (xs ++ ys) ≡ both (sized a xs) (sized b ys)
        split true true = ap Some (size-add xs ys)
        split true false = refl
        split false b = refl
