-- Bytes in byte order, and what they begin with.
use Rattle.std.proofs.Common.{◌≡◌, ℕ, zero, suc, ◌+◌, ◌<◌, ◌≤◌, true, false, List, [], ◌∷◌, length, get_or, refl, sym, ap, ◌∙◌, arith}
use Rattle.std.specs.Prelude.{◌&&◌, not, nat_eq}
use Rattle.std.specs.Cmp.Lexicographic.{slice_cmp}
use Rattle.std.specs.List.Sorted.{IsPartitionedBy, IsSortedBy}
use Rattle.std.specs.Ordering.{is_gt, is_lt, nat_cmp, ordering_reverse, ordering_then}
use Rattle.std.specs.declared.cmp.Ordering.{Ordering}
use Rattle.std.specs.declared.cmp.Ordering.TheVariants.{Less, Equal, Greater}
use Rattle.std.proofs.lemmas.Bool.{false≢true, not-true, eqb-true, eq-eqb, and_parts}
use Rattle.std.proofs.lemmas.Cmp.{nat_cmp_total, nat_list_cmp_total, tied_itself, upto}
use Rattle.std.proofs.lemmas.Map.Keys.{le_from_not_gt}
use Rattle.seg_column_format.specs.PathStarts.{AreApart, Ascend, begins, is_up_to}

-- ---- two lists

pub up_to_next : (a b c : List ℕ) → is_up_to b a ≡ true → is_up_to c b ≡ true → is_up_to c a ≡ true
up_to_next a b c h k = ap not (upto nat_list_cmp_total a b c
    (not-true (is_gt (slice_cmp nat_cmp a b)) h) (not-true (is_gt (slice_cmp nat_cmp b c)) k))

pub up_to_itself : (a : List ℕ) → is_up_to a a ≡ true
up_to_itself a = ap (λ o. not (is_gt o)) (tied_itself nat_list_cmp_total a)

first_up : (o r : Ordering) → not (is_gt (ordering_then o r)) ≡ true → is_gt o ≡ false
first_up Less r h = refl
first_up Equal r h = refl
first_up Greater r h = absurd (false≢true h)

head_up : (x y : ℕ) (xs ys : List ℕ) → is_up_to (y ∷ ys) (x ∷ xs) ≡ true → x ≤ y
head_up x y xs ys h = le_from_not_gt x y (first_up (nat_cmp x y) (slice_cmp nat_cmp xs ys) h)

tail_up : (x y : ℕ) (xs ys : List ℕ) → x ≡ y → is_up_to (y ∷ ys) (x ∷ xs) ≡ is_up_to ys xs
tail_up x y xs ys same = ap (λ o. not (is_gt (ordering_then o (slice_cmp nat_cmp xs ys))))
    (ap (nat_cmp x) (sym same) ∙ tied_itself nat_cmp_total x)

-- ---- what they begin with

-- what is between a start and bytes that begin with it begins with it too
pub between : (k m p : List ℕ) → is_up_to m k ≡ true → is_up_to p m ≡ true → begins p k ≡ true → begins m k ≡ true
between [] m p a b h = refl
between (x ∷ k) m [] a b h = absurd (false≢true h)
between (x ∷ k) [] (z ∷ p) a b h = absurd (false≢true a)
between (x ∷ k) (y ∷ m) (z ∷ p) a b h =
    let two = and_parts (nat_eq x z) (begins p k) h in
    let ends = eqb-true x z two.0 in
    let first = head_up x y k m a in
    let second = head_up y z m p b in
    let one : x ≡ y = omega (arith, ends, first, second) in
    let other : y ≡ z = omega (arith, ends, first, second) in
    (λ j. eq-eqb x y one j
    && between k m p (sym (tail_up x y k m one) ∙ a) (sym (tail_up y z m p other) ∙ b) two.1 j)

pub begun_up : (k p : List ℕ) → begins p k ≡ true → is_up_to p k ≡ true
begun_up [] [] h = refl
begun_up [] (z ∷ p) h = refl
begun_up (x ∷ k) [] h = absurd (false≢true h)
begun_up (x ∷ k) (z ∷ p) h =
    let two = and_parts (nat_eq x z) (begins p k) h in
    tail_up x z k p (eqb-true x z two.0) ∙ begun_up k p two.1

pub begins_through : (s k q : List ℕ) → begins k s ≡ true → begins q k ≡ true → begins q s ≡ true
begins_through [] k q a b = refl
begins_through (x ∷ s) [] q a b = absurd (false≢true a)
begins_through (x ∷ s) (y ∷ k) [] a b = absurd (false≢true b)
begins_through (x ∷ s) (y ∷ k) (z ∷ q) a b =
    let one = and_parts (nat_eq x y) (begins k s) a in
    let other = and_parts (nat_eq y z) (begins q k) b in
    let same : x ≡ z = eqb-true x y one.0 ∙ eqb-true y z other.0 in
    (λ j. eq-eqb x z same j && begins_through s k q one.1 other.1 j)

-- ---- many

not_less : (s t : List ℕ) → is_lt (slice_cmp nat_cmp t s) ≡ false → is_up_to t s ≡ true
not_less s t h = ap (λ o. not (is_gt o)) (nat_list_cmp_total.antisymm s t) ∙ by (slice_cmp nat_cmp t s) h
  where
    by : (o : Ordering) → is_lt o ≡ false → not (is_gt (ordering_reverse o)) ≡ true
    by Less h = sym h
    by Equal h = refl
    by Greater h = refl

ascend_from : (xs : List (List ℕ)) → ((k j : ℕ) → j ≡ suc k → j < length xs
    → is_lt (slice_cmp nat_cmp (get_or xs j []) (get_or xs k [])) ≡ false) → Ascend xs
ascend_from [] h = tt
ascend_from (s ∷ []) h = tt
ascend_from (s ∷ t ∷ ss) h = (
  not_less s t (h zero (suc zero) refl (omega arith)),
  ascend_from (t ∷ ss) (λ k j next lt. h (suc k) (suc j) (ap suc next) (omega (arith, lt))),
)

far : (xs : List (List ℕ)) → AreApart xs → (i j : ℕ) (d : List ℕ) → i ≤ j → j < length xs
    → is_up_to (get_or xs j d) (get_or xs i d) ≡ true
far [] apart i j d le lt = absurd (omega (arith, lt))
far (s ∷ ss) apart zero zero d le lt = up_to_itself s
far (s ∷ []) apart zero (suc j) d le lt = absurd (omega (arith, lt))
far (s ∷ t ∷ ss) apart zero (suc j) d le lt =
    up_to_next s t (get_or (t ∷ ss) j d) apart.0.0 (far (t ∷ ss) apart.1 zero j d (omega arith) (omega (arith, lt)))
far (s ∷ ss) apart (suc i) zero d le lt = absurd (omega (arith, le))
far (s ∷ []) apart (suc i) (suc j) d le lt = absurd (omega (arith, lt))
far (s ∷ t ∷ ss) apart (suc i) (suc j) d le lt = far (t ∷ ss) apart.1 i j d (omega (arith, le)) (omega (arith, lt))

pub partitioned : (path : List ℕ) (xs : List (List ℕ)) → AreApart xs → IsPartitionedBy (is_up_to path) xs
partitioned path xs apart = λ i j d le lt h.
    up_to_next (get_or xs i d) (get_or xs j d) path (far xs apart i j d le lt) h

pub ascend_sorted : (xs : List (List ℕ)) → IsSortedBy (λ x y. is_lt (slice_cmp nat_cmp x y)) xs → Ascend xs
ascend_sorted xs up = ascend_from xs (λ k j next lt.
    ap (λ n. is_lt (slice_cmp nat_cmp (get_or xs n []) (get_or xs k []))) (next_is k j next)
    ∙ up k [] (omega arith) (omega (arith, next, lt)))
  where
    next_is : (k j : ℕ) → j ≡ suc k → j ≡ k + 1
    next_is k j next = omega (arith, next)
