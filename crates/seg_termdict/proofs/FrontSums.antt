-- Fronts of streams, by sums over them.
use Rattle.std.proofs.Common.{◌≡◌, ℕ, zero, suc, ◌+◌, ◌<◌, Bool, true, false, cond, nat_eq, eq-eqb, set, List, [], ◌∷◌, ◌++◌, length, get_or, drop, refl, sym, ap, subst, ◌∙◌, arith}
use Rattle.std.specs.Prelude.{Contains, sum_by}
use Rattle.std.specs.List.{AllByRecursion}
use Rattle.std.specs.List.Sorted.{IsPermutation}
use Rattle.std.specs.Str.{bytes_eq}
use Rattle.std.proofs.lemmas.Bool.{false≢true, eqb-true}
use Rattle.std.proofs.lemmas.List.{drop_more}
use Rattle.std.proofs.lemmas.List.Elements.{All-contains, All-contains_itself, All-from_recursion, recursion_from_All}
use Rattle.std.proofs.lemmas.List.Sorted.{sum_by-IsPermutation}
use Rattle.std.proofs.lemmas.List.Sums.{sum_by-append, sum_by-cons}
use Rattle.std.proofs.lemmas.Slice.Eq.{bytes_eq-Decides}
use Rattle.seg_common.specs.declared.term_info.TermInfo.{TermInfo}
use Rattle.seg_termdict.specs.SortedTerms.{RankedTerm}
use Rattle.seg_termdict.specs.MergerHeap.{Front, front_at, fronts_from}
use Rattle.seg_termdict.proofs.MergeSteps.{Streams}

-- ---- lists over which every sum is the same

abbrev pub SameFronts : List Front → List Front → Type 0
SameFronts xs ys = (f : Front → ℕ) → sum_by f xs ≡ sum_by f ys

is_one : Front → Front → Bool
is_one x y = cond (bytes_eq x.0 y.0) (nat_eq x.1 y.1) false

one : Front → Front → ℕ
one x y = cond (is_one x y) 1 0

one_itself : (x : Front) → one x x ≡ 1
unfolding is_one one
one_itself x =
    let e : bytes_eq x.0 x.0 ≡ true = (bytes_eq-Decides x.0 x.0).1 refl in
    let f : nat_eq x.1 x.1 ≡ true = eq-eqb x.1 x.1 refl in
    rw (e, f) refl

is_one_same : (x y : Front) → is_one x y ≡ true → y ≡ x
unfolding is_one
is_one_same x y e = by (bytes_eq x.0 y.0) (nat_eq x.1 y.1) refl refl e
  where
    by : (b v : Bool) → bytes_eq x.0 y.0 ≡ b → nat_eq x.1 y.1 ≡ v → cond b v false ≡ true → y ≡ x
    by true true e f h = λ i. (sym ((bytes_eq-Decides x.0 y.0).0 e) i, sym (eqb-true x.1 y.1 f) i)
    by true false e f h = absurd (false≢true h)
    by false v e f h = absurd (false≢true h)

counted : (x : Front) (xs : List Front) (k : ℕ) → k < length xs → get_or xs k x ≡ x → 0 < sum_by (one x) xs
counted x [] k lt is = absurd (omega (arith, lt))
counted x (y ∷ ys) zero lt is = omega (arith, subst (λ (z : Front). one x z ≡ 1) (sym is) (one_itself x), sum_by-cons (one x) y ys)
counted x (y ∷ ys) (suc k) lt is = omega (arith, counted x ys k (omega (arith, lt)) is, sum_by-cons (one x) y ys)

found : (x : Front) (xs : List Front) → 0 < sum_by (one x) xs → Contains xs x
unfolding one
found x [] lt = absurd (omega (arith, lt))
found x (y ∷ ys) lt = by (found x ys) (is_one x y) refl
  where
    by : (0 < sum_by (one x) ys → Contains ys x) → (b : Bool) → is_one x y ≡ b → Contains (y ∷ ys) x
    by later true e = (0, omega arith, is_one_same x y e)
    by later false e =
        let z : one x y ≡ 0 = ap (λ b. cond b 1 0) e in
        let (k, place, is) = later (omega (arith, lt, z, sum_by-cons (one x) y ys)) in
        (suc k, omega (arith, place), is)

pub shared : (xs ys : List Front) → SameFronts xs ys → (x : Front) → Contains ys x → Contains xs x
shared xs ys same x (k, lt, is) = found x xs (omega (arith, same (one x), counted x ys k lt is))

pub carried : (P : Front → Type 0) (xs ys : List Front) → SameFronts xs ys → AllByRecursion P xs → AllByRecursion P ys
carried P xs ys same h = recursion_from_All P ys (λ k d lt. All-contains P xs (get_or ys k d) (All-from_recursion P xs h) (shared xs ys same (get_or ys k d) (All-contains_itself ys k d lt)))

-- ---- the streams

pub joined_sum : (f : Front → ℕ) (added old new : List Front) → IsPermutation (added ++ old) new → sum_by f new ≡ sum_by f added + sum_by f old
joined_sum f added old new h = sum_by-IsPermutation f (added ++ old) new h ∙ sum_by-append f added old

-- one more stream comes
pub sum_more : (f : Front → ℕ) (i : ℕ) (hs : Streams) (old new : List Front) (all : ℕ) → i < length hs → IsPermutation (front_at i (get_or hs i []) ++ old) new → sum_by f old + sum_by f (fronts_from i (drop i hs)) ≡ all → sum_by f new + sum_by f (fronts_from (i + 1) (drop (i + 1) hs)) ≡ all
sum_more f i hs old new all lt h e =
    let d : sum_by f (fronts_from i (drop i hs)) ≡ sum_by f (front_at i (get_or hs i []) ++ fronts_from (i + 1) (drop (i + 1) hs)) = ap (λ (l : Streams). sum_by f (fronts_from i l)) (drop_more hs i [] lt) in
    omega (arith, e, d, joined_sum f (front_at i (get_or hs i [])) old new h, sum_by-append f (front_at i (get_or hs i [])) (fronts_from (i + 1) (drop (i + 1) hs)))

-- a stream is put in the place of another
pub sum_set : (f : Front → ℕ) (n m i : ℕ) (hs : Streams) (g : List (RankedTerm TermInfo)) → n + i ≡ m → i < length hs → sum_by f (front_at m g) + sum_by f (fronts_from n hs) ≡ sum_by f (front_at m (get_or hs i [])) + sum_by f (fronts_from n (set hs i g))
sum_set f n m i [] g e lt = absurd (omega (arith, lt))
sum_set f n m zero (h ∷ hs) g e lt =
    let z : n ≡ m = omega (arith, e) in
    subst (λ (k : ℕ). sum_by f (front_at k g) + sum_by f (fronts_from n (h ∷ hs)) ≡ sum_by f (front_at k h) + sum_by f (fronts_from n (g ∷ hs))) z
    (omega (arith, sum_by-append f (front_at n h) (fronts_from (n + 1) hs), sum_by-append f (front_at n g) (fronts_from (n + 1) hs)))
sum_set f n m (suc i) (h ∷ hs) g e lt = omega (
  arith,
  sum_set f (n + 1) m i hs g (omega (arith, e)) (omega (arith, lt)),
  sum_by-append f (front_at n h) (fronts_from (n + 1) hs),
  sum_by-append f (front_at n h) (fronts_from (n + 1) (set hs i g)),
)
