-- Paths without a byte 0, each with a byte 0 and more after it.
use Rattle.std.proofs.Common.{Ordering, ◌≡◌, ℕ, ◌<◌, List, [], ◌∷◌, ◌++◌, true, get_or, drop, refl, sym, ap, ◌∙◌, arith}
use Rattle.std.specs.Ordering.{nat_cmp, ordering_then}
use Rattle.std.specs.declared.cmp.Ordering.TheVariants.{Less, Equal, Greater}
use Rattle.std.specs.Cmp.Lexicographic.{slice_cmp}
use Rattle.std.proofs.lemmas.Bool.Decides.{nat_tests}
use Rattle.seg_model.specs.DocumentCheck.{has_no_zero}
use Rattle.seg_paths.proofs.ZeroFreeKeys.{no_zero-cons}

abbrev pub first : List ℕ → ℕ
first bytes = get_or bytes 0 0

-- the path and what is after it are told apart
pub ended-apart : (p q x y : List ℕ) → has_no_zero p ≡ true → has_no_zero q ≡ true → p ++ 0 ∷ x ≡ q ++ 0 ∷ y
    → (p ≡ q) × (x ≡ y)
ended-apart [] [] x y hp hq e = (refl, ap (λ (l : List ℕ). drop 1 l) e)
ended-apart [] (c ∷ q) x y hp hq e =
    let some = (no_zero-cons c q hq).0 in
    let none : 0 ≡ c = ap first e in
    absurd (omega (arith, some, none))
ended-apart (b ∷ p) [] x y hp hq e =
    let some = (no_zero-cons b p hp).0 in
    let none : b ≡ 0 = ap first e in
    absurd (omega (arith, some, none))
ended-apart (b ∷ p) (c ∷ q) x y hp hq e =
    let rest = ended-apart p q x y (no_zero-cons b p hp).1 (no_zero-cons c q hq).1 (ap (λ (l : List ℕ). drop 1 l) e) in
    let here : b ≡ c = ap first e in
    (λ i. here i ∷ rest.0 i, rest.1)

zero-less : (c : ℕ) → 0 < c → nat_cmp 0 c ≡ Less
zero-less c some = grind (arith, nat_tests)

zero-greater : (b : ℕ) → 0 < b → nat_cmp b 0 ≡ Greater
zero-greater b some = grind (arith, nat_tests)

-- the paths decide first, and then what is after them
pub cmp-ended : (p q x y : List ℕ) → has_no_zero p ≡ true → has_no_zero q ≡ true
    → slice_cmp nat_cmp (p ++ 0 ∷ x) (q ++ 0 ∷ y)
    ≡ ordering_then (slice_cmp nat_cmp (p ++ 0 ∷ []) (q ++ 0 ∷ [])) (slice_cmp nat_cmp x y)
cmp-ended [] [] x y hp hq = refl
cmp-ended [] (c ∷ q) x y hp hq =
    let less = zero-less c (no_zero-cons c q hq).0 in
    ap (λ r. ordering_then r (slice_cmp nat_cmp x (q ++ 0 ∷ y))) less
    ∙ sym (ap (λ r. ordering_then (ordering_then r (slice_cmp nat_cmp [] (q ++ 0 ∷ []))) (slice_cmp nat_cmp x y)) less)
cmp-ended (b ∷ p) [] x y hp hq =
    let greater = zero-greater b (no_zero-cons b p hp).0 in
    ap (λ r. ordering_then r (slice_cmp nat_cmp (p ++ 0 ∷ x) y)) greater
    ∙ sym (ap (λ r. ordering_then (ordering_then r (slice_cmp nat_cmp (p ++ 0 ∷ []) [])) (slice_cmp nat_cmp x y)) greater)
cmp-ended (b ∷ p) (c ∷ q) x y hp hq =
    by (nat_cmp b c) (cmp-ended p q x y (no_zero-cons b p hp).1 (no_zero-cons c q hq).1)
  where
    by : (r : Ordering) → slice_cmp nat_cmp (p ++ 0 ∷ x) (q ++ 0 ∷ y)
        ≡ ordering_then (slice_cmp nat_cmp (p ++ 0 ∷ []) (q ++ 0 ∷ [])) (slice_cmp nat_cmp x y)
        → ordering_then r (slice_cmp nat_cmp (p ++ 0 ∷ x) (q ++ 0 ∷ y))
        ≡ ordering_then (ordering_then r (slice_cmp nat_cmp (p ++ 0 ∷ []) (q ++ 0 ∷ []))) (slice_cmp nat_cmp x y)
    by Less rest = refl
    by Equal rest = rest
    by Greater rest = refl
