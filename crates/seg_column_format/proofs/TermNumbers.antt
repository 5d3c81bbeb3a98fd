-- A term that may be among those that came.
use Rattle.std.proofs.Common.{◌≡◌, ℕ, zero, suc, ◌+◌, ◌<◌, Bool, true, false, cond, List, [], ◌∷◌, ◌++◌, length, get_or, Some, sym, refl, ap, ◌∙◌, arith}
use Rattle.std.specs.Prelude.{◌||◌, not}
use Rattle.std.specs.Cmp.Lexicographic.{bytes_decides}
use Rattle.std.specs.List.{list_any, position}
use Rattle.std.specs.Str.{bytes_eq}
use Rattle.std.proofs.lemmas.Bool.{false≢true, or_parts}
use Rattle.std.proofs.lemmas.List.Quantifiers.{position-Some}
use Rattle.std.proofs.lemmas.List.Sums.{position_or_len_is}
use Rattle.indexmap.specs.IndexSet.{insert_key}
use Rattle.std.proofs.lemmas.List.Folds.{list_any_at}
use Rattle.seg_column_format.specs.NumberedTerms.{term_number, with_term}

pub fails_at : {X : Type 0} (test : X → Bool) (xs : List X) (i : ℕ) (d : X) → list_any test xs ≡ false → i < length xs
    → test (get_or xs i d) ≡ false
fails_at test [] i d none lt = absurd (omega (arith, lt))
fails_at test (x ∷ xs) zero d none lt = (or_parts (test x) (list_any test xs) none).0
fails_at test (x ∷ xs) (suc i) d none lt =
    fails_at test xs i d (or_parts (test x) (list_any test xs) none).1 (omega (arith, lt))

module _ (terms : List (List ℕ)) (term : List ℕ) where
  pub with_term-there : (n : ℕ) → position (bytes_eq term) terms ≡ Some n → with_term terms term ≡ terms
  with_term-there n is =
      let found = position-Some (bytes_eq term) terms n [] is in
      ap (λ (b : Bool). cond b terms (terms ++ term ∷ []))
      (list_any_at (bytes_eq term) terms n [] (omega (arith, found.0)) found.1)

  pub with_term-new : list_any (bytes_eq term) terms ≡ false → with_term terms term ≡ terms ++ term ∷ []
  with_term-new none = ap (λ (b : Bool). cond b terms (terms ++ term ∷ [])) none

  pub term_number-there : (n : ℕ) → position (bytes_eq term) terms ≡ Some n → term_number terms term ≡ n
  term_number-there n is =
      let found = position-Some (bytes_eq term) terms n [] is in
      position_or_len_is (bytes_eq term) terms n [] (omega (arith, found.0)) found.2 (λ _. found.1)

  pub term_number-new : list_any (bytes_eq term) terms ≡ false → term_number terms term ≡ length terms
  term_number-new none = position_or_len_is (bytes_eq term) terms (length terms) [] (omega arith)
      (λ k lt. fails_at (bytes_eq term) terms k [] none lt) (λ lt. absurd (omega (arith, lt)))

pub terms_pushed : (terms terms' : List (List ℕ)) (key term : List ℕ) → key ≡ term
    → list_any (bytes_eq term) terms ≡ false → terms' ≡ insert_key bytes_eq terms key → terms' ≡ terms ++ term ∷ []
terms_pushed terms terms' key term same none is =
    is ∙ ap (insert_key bytes_eq terms) same ∙ ap (λ (b : Bool). cond b terms (terms ++ term ∷ [])) none

-- a term that is there is at its number
pub term_within : (terms : List (List ℕ)) (term : List ℕ) → list_any (bytes_eq term) terms ≡ true
    → term_number terms term < length terms
term_within [] term e = absurd (false≢true e)
term_within (t ∷ terms) term e = by (bytes_eq term t) e (term_within terms term)
  where
    by : (b : Bool) → (b || list_any (bytes_eq term) terms) ≡ true
        → (list_any (bytes_eq term) terms ≡ true → term_number terms term < length terms)
        → cond (not b) (1 + term_number terms term) 0 < suc (length terms)
    by true e rest = omega arith
    by false e rest = omega (arith, rest e)

pub term_at : (terms : List (List ℕ)) (term : List ℕ) → list_any (bytes_eq term) terms ≡ true
    → get_or terms (term_number terms term) [] ≡ term
term_at [] term e = absurd (false≢true e)
term_at (t ∷ terms) term e = by (bytes_eq term t) refl e (term_at terms term)
  where
    by : (b : Bool) → bytes_eq term t ≡ b → (b || list_any (bytes_eq term) terms) ≡ true
        → (list_any (bytes_eq term) terms ≡ true → get_or terms (term_number terms term) [] ≡ term)
        → get_or (t ∷ terms) (cond (not b) (1 + term_number terms term) 0) [] ≡ term
    by true is e rest = sym ((bytes_decides term t).0 is)
    by false is e rest =
        let s : 1 + term_number terms term ≡ suc (term_number terms term) = omega arith in
        ap (λ (n : ℕ). get_or (t ∷ terms) n []) s ∙ rest e
