-- The tokens of a text at a joined path, one after another.
use Rattle.std.proofs.Common.{◌≡◌, ℕ, ◌+◌, ◌<◌, ◌≤◌, ◌^◌, Bool, true, false, cond, List, [], ◌∷◌, ◌++◌, map, length, sym, refl, ap, ◌∙◌, arith, append_assoc}
use Rattle.std.specs.Prelude.{nat_le}
use Rattle.std.proofs.lemmas.Bool.Decides.{nat_tests}
use Rattle.seg_tokens.specs.declared.token.Token.{Token}
use Rattle.seg_model.specs.Occurrences.{Occurrence, counted, reach, start_after, placed_from}
use Rattle.seg_model.specs.DocumentTerms.{Terms}
use Rattle.seg_terms.specs.AddedOccurrences.{with_occurrence, with_occurrences}
use Rattle.seg_build.proofs.GrownTerms.{with_occurrences-append}

counted-cons : (t : Token) (ts : List Token) → counted (t ∷ ts) ≡ counted (t ∷ []) ++ counted ts
counted-cons t ts = by (nat_le (length t.text) 65530)
  where
    by : (b : Bool) → cond b (t ∷ counted ts) (counted ts) ≡ cond b (t ∷ []) [] ++ counted ts
    by true = refl
    by false = refl

-- a token that is counted, and one that is too long
pub counted-one : (t : Token) → length t.text ≤ 65530 → counted (t ∷ []) ≡ t ∷ []
counted-one t le = let short : nat_le (length t.text) 65530
    ≡ true = grind (arith, nat_tests) in ap (λ b. cond b (t ∷ []) []) short

pub counted-none : (t : Token) → 65530 < length t.text → counted (t ∷ []) ≡ []
counted-none t lt = let long : nat_le (length t.text) 65530
    ≡ false = grind (arith, nat_tests) in ap (λ b. cond b (t ∷ []) []) long

module _ (start : ℕ) (path : List ℕ) (document : ℕ) where
  abbrev prefix : List ℕ
  prefix = path ++ 0 ∷ 115 ∷ []

  abbrev placed : List Token → List Occurrence
  placed ts = map (λ (t : Token). record { bytes = prefix ++ t.text; position = start + t.position }) ts

  placed-append : (xs ys : List Token) → placed (xs ++ ys) ≡ placed xs ++ placed ys
  placed-append [] ys = refl
  placed-append (x ∷ xs) ys = ap (λ l. record { bytes = prefix ++ x.text; position = start + x.position } ∷ l)
      (placed-append xs ys)

  -- one more token
  pub token_turn : (before after : Terms) (t : Token) (rest left : List Token) → left ≡ t ∷ rest → after
      ≡ with_occurrences before document (placed_from start prefix (t ∷ []))
      → with_occurrences after document (placed_from start prefix rest)
      ≡ with_occurrences before document (placed_from start prefix left)
  token_turn before after t rest left is put =
      ap (λ terms. with_occurrences terms document (placed_from start prefix rest)) put
      ∙ sym (with_occurrences-append before document (placed_from start prefix (t ∷ []))
      (placed_from start prefix rest))
      ∙ ap (with_occurrences before document) (sym (placed-append (counted (t ∷ [])) (counted rest))
      ∙ ap placed (sym (counted-cons t rest)) ∙ ap (placed_from start prefix) (sym is))

  -- an occurrence is one of the token
  pub token_placed : (before after : Terms) (t : Token) → length t.text ≤ 65530 → after
      ≡ with_occurrence before document (record { bytes = path ++ 0 ∷ 115 ∷ t.text; position = start + t.position })
      → after ≡ with_occurrences before document (placed_from start prefix (t ∷ []))
  token_placed before after t le put =
      put
      ∙ ap (λ b. with_occurrence before document (record { bytes = b; position = start + t.position }))
      (sym (append_assoc path (0 ∷ 115 ∷ []) t.text))
      ∙ ap (λ ts. with_occurrences before document (placed ts)) (sym (counted-one t le))

  pub token_passed : (before : Terms) (t : Token) → 65530 < length t.text → before
      ≡ with_occurrences before document (placed_from start prefix (t ∷ []))
  token_passed before t lt = ap (λ ts. with_occurrences before document (placed ts)) (sym (counted-none t lt))

-- ---- where texts end

reach-more : (start : ℕ) (xs ys : List Token)
    → (reach start xs ≤ reach start (xs ++ ys)) × (reach start ys ≤ reach start (xs ++ ys))
reach-more start [] ys = (reach-ge start ys, omega arith)
  where
    reach-ge : (start : ℕ) (ts : List Token) → start ≤ reach start ts
    reach-ge start [] = omega arith
    reach-ge start (t ∷ ts) = omega (arith, reach-ge start ts)
reach-more start (x ∷ xs) ys = let rest = reach-more start xs ys in let a = rest.0 in let b = rest.1 in
    (omega (arith, a), omega (arith, b))

pub fits_first : (start : ℕ) (t : Token) (rest left : List Token) → left ≡ t ∷ rest → start_after start left < 2 ^ 32
    → start_after start (t ∷ []) < 2 ^ 32
fits_first start t rest left is low =
    let all : counted left ≡ counted (t ∷ []) ++ counted rest = ap counted is ∙ counted-cons t rest in
    let here : start_after start left
    ≡ 1 + reach start (counted (t ∷ []) ++ counted rest) = ap (λ l. 1 + reach start l) all in
    let le = (reach-more start (counted (t ∷ [])) (counted rest)).0 in
    omega (arith, here, le, low)

pub fits_rest : (start : ℕ) (t : Token) (rest left : List Token) → left ≡ t ∷ rest → start_after start left < 2 ^ 32
    → start_after start rest < 2 ^ 32
fits_rest start t rest left is low =
    let all : counted left ≡ counted (t ∷ []) ++ counted rest = ap counted is ∙ counted-cons t rest in
    let here : start_after start left
    ≡ 1 + reach start (counted (t ∷ []) ++ counted rest) = ap (λ l. 1 + reach start l) all in
    let le = (reach-more start (counted (t ∷ [])) (counted rest)).1 in
    omega (arith, here, le, low)

-- the place of a token is a u32
pub place_fits : (start : ℕ) (t : Token) → length t.text ≤ 65530 → start_after start (t ∷ []) < 2 ^ 32
    → start + t.position < 2 ^ 32
place_fits start t le low =
    let here : start_after start (t ∷ []) ≡ 1 + reach start (t ∷ []) = ap (λ l. 1 + reach start l) (counted-one t le) in
    omega (arith, here, low)
