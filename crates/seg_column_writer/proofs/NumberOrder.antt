-- Numbers in order are told by how often each occurs.
use Rattle.std.proofs.Common.{◌≡◌, ℕ, ◌+◌, ◌<◌, ◌≤◌, Bool, true, false, cond, List, [], ◌∷◌, refl, sym, ap, subst, ◌∙◌, arith, inl, inr}
use Rattle.std.specs.Prelude.{◌==◌, nat_lt}
use Rattle.std.proofs.lemmas.Bool.{cases_lt, ne_eqb}
use Rattle.std.proofs.lemmas.Bool.Decides.{Decides-eqb, nat_tests}

-- how often a number occurs
abbrev pub occurs : ℕ → List ℕ → ℕ
occurs n [] = 0
occurs n (x ∷ xs) = cond (x == n) 1 0 + occurs n xs

-- no number falls
abbrev pub Ascends : ℕ → List ℕ → Type 0
Ascends low [] = Unit {0}
Ascends low (x ∷ xs) = (low ≤ x) × Ascends x xs

none_below : (low n : ℕ) (xs : List ℕ) → Ascends low xs → n < low → occurs n xs ≡ 0
none_below low n [] up lt = refl
none_below low n (x ∷ xs) up lt =
    let no : (x == n) ≡ false = ne_eqb x n (λ e. omega (arith, e, lt, up.0)) in
    ap (λ (b : Bool). cond b 1 0 + occurs n xs) no ∙ omega (arith, none_below x n xs up.1 (omega (arith, lt, up.0)))

here : (x : ℕ) (xs : List ℕ) → occurs x (x ∷ xs) ≡ 1 + occurs x xs
here x xs = ap (λ (b : Bool). cond b 1 0 + occurs x xs) ((Decides-eqb x x).1 refl)

-- two lists in order in which each number occurs as often are one
pub same_order : (low : ℕ) (xs ys : List ℕ) → Ascends low xs → Ascends low ys
    → ((n : ℕ) → occurs n xs ≡ occurs n ys) → xs ≡ ys
same_order low [] [] up down same = refl
same_order low [] (y ∷ ys) up down same = absurd (omega (arith, same y, here y ys))
same_order low (x ∷ xs) [] up down same = absurd (omega (arith, same x, here x xs))
same_order low (x ∷ xs) (y ∷ ys) up down same =
    let e : x ≡ y = first x y xs ys up.1 down.1 same in
    λ j. e j ∷ same_order x xs ys up.1 (subst (λ (n : ℕ). Ascends n ys) (sym e) down.1) (rest e) j
  where
    first : (x y : ℕ) (xs ys : List ℕ) → Ascends x xs → Ascends y ys
        → ((n : ℕ) → occurs n (x ∷ xs) ≡ occurs n (y ∷ ys)) → x ≡ y
    first x y xs ys up down same =
        elim (cases_lt x y) [
          | inl lt ↦
              let none : occurs x (y ∷ ys) ≡ 0 = none_below y x (y ∷ ys) (omega arith, down) lt in
              absurd (omega (arith, same x, here x xs, none))
          | inr le ↦ elim (cases_lt y x) [
            | inl lt ↦
                let none : occurs y (x ∷ xs) ≡ 0 = none_below x y (x ∷ xs) (omega arith, up) lt in
                absurd (omega (arith, same y, here y ys, none))
            | inr other ↦ omega (arith, le, other)
          ]
        ]

    rest : x ≡ y → (n : ℕ) → occurs n xs ≡ occurs n ys
    rest e n =
        let all : cond (x == n) 1 0 + occurs n xs ≡ cond (y == n) 1 0 + occurs n ys = same n in
        let one : ◌≡◌ {A = ℕ} (cond (x == n) 1 0) (cond (y == n) 1 0) = ap (λ (m : ℕ). cond (m == n) 1 0) e in
        omega (arith, all, one)

-- ---- numbers put in order

abbrev pub put_number : ℕ → List ℕ → List ℕ
put_number n [] = n ∷ []
put_number n (x ∷ xs) = cond (nat_lt x n) (x ∷ put_number n xs) (n ∷ x ∷ xs)

abbrev pub numbers_in_order : List ℕ → List ℕ
numbers_in_order [] = []
numbers_in_order (x ∷ xs) = put_number x (numbers_in_order xs)

occurs_put : (m n : ℕ) (xs : List ℕ) → occurs m (put_number n xs) ≡ cond (n == m) 1 0 + occurs m xs
occurs_put m n [] = refl
occurs_put m n (x ∷ xs) = by (nat_lt x n) (occurs_put m n xs)
  where
    by : (b : Bool) → occurs m (put_number n xs) ≡ cond (n == m) 1 0 + occurs m xs
        → occurs m (cond b (x ∷ put_number n xs) (n ∷ x ∷ xs)) ≡ cond (n == m) 1 0 + (cond (x == m) 1 0 + occurs m xs)
    by true e = omega (arith, e)
    by false e = refl

pub occurs_ordered : (m : ℕ) (xs : List ℕ) → occurs m (numbers_in_order xs) ≡ occurs m xs
occurs_ordered m [] = refl
occurs_ordered m (x ∷ xs) =
    occurs_put m x (numbers_in_order xs) ∙ ap (λ (k : ℕ). cond (x == m) 1 0 + k) (occurs_ordered m xs)

ascends_put : (low n : ℕ) (xs : List ℕ) → Ascends low xs → low ≤ n → Ascends low (put_number n xs)
ascends_put low n [] up le = (le, tt)
ascends_put low n (x ∷ xs) up le = by (nat_lt x n) refl (λ h. ascends_put x n xs up.1 h)
  where
    by : (b : Bool) → nat_lt x n ≡ b → (x ≤ n → Ascends x (put_number n xs))
        → Ascends low (cond b (x ∷ put_number n xs) (n ∷ x ∷ xs))
    by true e rest = let lt : x < n = grind (arith, nat_tests, e) in (up.0, rest (omega (arith, lt)))
    by false e rest = let ge : n ≤ x = grind (arith, nat_tests, e) in (le, (ge, up.1))

pub ascends_ordered : (xs : List ℕ) → Ascends 0 (numbers_in_order xs)
ascends_ordered [] = tt
ascends_ordered (x ∷ xs) = ascends_put 0 x (numbers_in_order xs) (ascends_ordered xs) (omega arith)
