-- The one start of some that a path begins with.
use Rattle.std.proofs.Common.{◌≡◌, ℕ, zero, suc, ◌<◌, ◌≤◌, Bool, true, false, ◌||◌, List, [], ◌∷◌, length, get_or, Some, refl, sym, ap, ◌∙◌, arith}
use Rattle.std.specs.Prelude.{◌-◌, ◌==◌}
use Rattle.std.specs.List.{list_any}
use Rattle.std.proofs.lemmas.Bool.{true≢false}
use Rattle.std.proofs.lemmas.Bool.Decides.{nat_tests}
use Rattle.std.proofs.lemmas.Option.{get_or_from_slice_get, slice_get-get_or}
use Rattle.std.proofs.Math.Bool.{or-false}
use Rattle.seg_column_format.specs.PathStarts.{AreApart, EndsAt, begins, begins_as_last, is_up_to}
use Rattle.seg_column_format.proofs.ByteOrder.{begun_up, between}

none_begun : (path : List ℕ) (ss : List (List ℕ))
    → ((i : ℕ) → i < length ss → is_up_to path (get_or ss i []) ≡ false) → list_any (begins path) ss ≡ false
none_begun path [] h = refl
none_begun path (s ∷ ss) h =
    (λ j. off (begins path s) refl j || none_begun path ss (λ i lt. h (suc i) (omega (arith, lt))) j)
  where
    off : (b : Bool) → begins path s ≡ b → begins path s ≡ false
    off false e = e
    off true e = absurd (true≢false (sym (begun_up s path e) ∙ h zero (omega arith)))

last_begun : (path s : List ℕ) (ss : List (List ℕ)) (n : ℕ) → AreApart (s ∷ ss) → n ≤ length ss
    → ((i : ℕ) → i ≤ n → is_up_to path (get_or (s ∷ ss) i []) ≡ true)
    → ((i : ℕ) → n < i → i < length (s ∷ ss) → is_up_to path (get_or (s ∷ ss) i []) ≡ false)
    → list_any (begins path) (s ∷ ss) ≡ begins path (get_or (s ∷ ss) n [])
last_begun path s ss zero apart lt up past =
    (λ j. begins path s || none_begun path ss (λ i l. past (suc i) (omega arith) (omega (arith, l))) j)
    ∙ or-false (begins path s)
last_begun path s [] (suc n) apart lt up past = absurd (omega (arith, lt))
last_begun path s (t ∷ ss) (suc n) apart lt up past =
    (λ j. off (begins path s) refl j || last_begun path t ss n apart.1 (omega (arith, lt))
    (λ i le. up (suc i) (omega (arith, le))) (λ i m l. past (suc i) (omega (arith, m)) (omega (arith, l))) j)
  where
    off : (b : Bool) → begins path s ≡ b → begins path s ≡ false
    off false e = e
    off true e = absurd (true≢false (sym (between s t path apart.0.0 (up (suc zero) (omega arith)) e) ∙ apart.0.1))

-- ---- by the place where a search ends

pub none_found : (path : List ℕ) (xs : List (List ℕ)) (n : ℕ) → n ≡ 0 → EndsAt path xs n
    → list_any (begins path) xs ≡ false
none_found path xs n is point = none_begun path xs (λ i lt. point.1 i [] (omega (arith, is)) lt)

pub one_found : (path : List ℕ) (xs : List (List ℕ)) (n i : ℕ) → n ≡ suc i → n ≤ length xs → AreApart xs
    → EndsAt path xs n → list_any (begins path) xs ≡ begins path (get_or xs i [])
one_found path [] n i is lt apart point = absurd (omega (arith, is, lt))
one_found path (s ∷ ss) n i is lt apart point = last_begun path s ss i apart (omega (arith, is, lt))
    (λ k le. point.0 k [] (omega arith) (omega (arith, le, is)))
    (λ k m l. point.1 k [] (omega (arith, m, is)) l)

-- ---- the last one

pub last_none : (starts : List (List ℕ)) (start : List ℕ) → length starts ≡ 0 → begins_as_last starts start ≡ false
last_none [] start long = refl
last_none (s ∷ ss) start long = absurd (omega (arith, long))

pub last_is : (starts : List (List ℕ)) (start : List ℕ) (n : ℕ) → length starts ≡ suc n
    → begins_as_last starts start ≡ begins start (get_or starts n [])
last_is [] start n long = absurd (omega (arith, long))
last_is (s ∷ []) start zero long = refl
last_is (s ∷ []) start (suc n) long = absurd (omega (arith, long))
last_is (s ∷ t ∷ ss) start zero long = absurd (omega (arith, long))
last_is (s ∷ t ∷ ss) start (suc n) long = last_is (t ∷ ss) start n (omega (arith, long))

pub counted : (n : ℕ) → (n == 0) ≡ false → n ≡ suc (n - 1)
counted n some = grind (arith, nat_tests, some)

-- what was read at a place, with itself in the place of a missing one
pub read_at : (xs : List (List ℕ)) (i : ℕ) (r : List ℕ) → i < length xs → r ≡ get_or xs i r → get_or xs i [] ≡ r
read_at xs i r lt is = get_or_from_slice_get xs i r [] (slice_get-get_or xs i r lt ∙ ap Some (sym is))
