-- A stream whose front is the first of all: what is noted of it, and what is left once it has gone on.
use Rattle.std.proofs.Common.{◌≡◌, ℕ, zero, suc, ◌+◌, ◌<◌, Bool, true, false, set, List, [], ◌∷◌, ◌++◌, map, length, get_or, drop, refl, sym, ap, subst, ◌∙◌, arith, append_assoc, append-nil, Some, None}
use Rattle.std.specs.Prelude.{Contains, sum_by}
use Rattle.std.specs.List.{AllByRecursion}
use Rattle.std.specs.List.Sorted.{IsPermutation, IsStrictlySortedBy}
use Rattle.std.specs.Ordering.{nat_cmp, is_le, is_lt, ordering_then, ordering_reverse}
use Rattle.std.specs.Cmp.{nat_cmp_is}
use Rattle.std.specs.Str.{bytes_eq}
use Rattle.std.specs.declared.cmp.Ordering.{Ordering}
use Rattle.std.specs.declared.cmp.Ordering.TheVariants.{Less, Equal, Greater}
use Rattle.std.proofs.Math.Seq.{map-set_same}
use Rattle.std.proofs.lemmas.Bool.{false≢true, cond-true, cond-false}
use Rattle.std.proofs.lemmas.Cmp.{nat_list_cmp_total, nat_cmp_total, tied_itself}
use Rattle.std.proofs.lemmas.List.Elements.{All-from_recursion, All-set, recursion_from_All}
use Rattle.std.proofs.lemmas.List.Sorted.{sum_by-IsPermutation}
use Rattle.std.proofs.lemmas.List.Sums.{sum_by-cons}
use Rattle.std.proofs.lemmas.Slice.Eq.{bytes_eq-Decides}
use Rattle.seg_common.specs.declared.term_info.TermInfo.{TermInfo}
use Rattle.seg_termdict.specs.SortedTerms.{RankedTerm, key_cmp}
use Rattle.seg_termdict.specs.MergedTerms.{Standing}
use Rattle.seg_termdict.specs.MergerHeap.{AreFronts, Front, IsFirstFront, comes_before, front_at, fronts_from}
use Rattle.seg_termdict.specs.MergedStreams.{Ascends, NotBelow, behind, first, first_with, standings_first}
use Rattle.seg_termdict.proofs.FrontSums.{SameFronts, carried, joined_sum, shared, sum_set}
use Rattle.seg_termdict.proofs.MergeSteps.{Streams, differs, rest_ascends, some_from, standing_of}

-- ---- no key is below one

low_from : (key : List ℕ) (n : ℕ) (hs : Streams) → AllByRecursion (NotBelow key) hs → AllByRecursion (λ y. is_le (key_cmp key y.0) ≡ true) (fronts_from n hs)
low_from key n [] h = tt
low_from key n ([] ∷ hs) h = low_from key (n + 1) hs h.1
low_from key n ((t ∷ ts) ∷ hs) h = (h.0, low_from key (n + 1) hs h.1)

pub fronts_low : (key : List ℕ) (fronts : List Front) (hs : Streams) → AreFronts fronts hs → AllByRecursion (NotBelow key) hs → AllByRecursion (λ y. is_le (key_cmp key y.0) ≡ true) fronts
fronts_low key fronts hs are low = carried (λ y. is_le (key_cmp key y.0) ≡ true) (fronts_from 0 hs) fronts (λ f. sym (are f)) (low_from key 0 hs low)

-- ---- no key is this one

none_noted : (key : List ℕ) (n : ℕ) (hs : Streams) → AllByRecursion (λ y. bytes_eq key y.0 ≡ false) (fronts_from n hs) → standings_first n key hs ≡ []
none_noted key n [] h = refl
none_noted key n ([] ∷ hs) h = none_noted key (n + 1) hs h
none_noted key n ((t ∷ ts) ∷ hs) h = rw h.0 (none_noted key (n + 1) hs h.1)

none_passed : (key : List ℕ) (n : ℕ) (hs : Streams) → AllByRecursion (λ y. bytes_eq key y.0 ≡ false) (fronts_from n hs) → map (behind key) hs ≡ hs
none_passed key n [] h = refl
none_passed key n ([] ∷ hs) h = ap (λ (rest : Streams). [] ∷ rest) (none_passed key (n + 1) hs h)
none_passed key n ((t ∷ ts) ∷ hs) h = rw h.0 (ap (λ (rest : Streams). (t ∷ ts) ∷ rest) (none_passed key (n + 1) hs h.1))

pub at_end : (key : List ℕ) (fronts : List Front) (hs : Streams) → AreFronts fronts hs → AllByRecursion (λ y. bytes_eq key y.0 ≡ false) fronts → (standings_first 0 key hs ≡ []) × (map (behind key) hs ≡ hs)
at_end key fronts hs are none =
    let all = carried (λ y. bytes_eq key y.0 ≡ false) fronts (fronts_from 0 hs) are none in
    (none_noted key 0 hs all, none_passed key 0 hs all)

-- ---- where a front is: at its number, with its key

abbrev Stands : Front → ℕ → Streams → Type 0
Stands x n hs = (i : ℕ) × (t : RankedTerm TermInfo) × (ts : List (RankedTerm TermInfo)) × (n + i ≡ x.1) × (i < length hs) × (get_or hs i [] ≡ t ∷ ts) × (t.key ≡ x.0)

later : (x : Front) (n : ℕ) (h : List (RankedTerm TermInfo)) (hs : Streams) → Stands x (n + 1) hs → Stands x n (h ∷ hs)
later x n h hs (i, t, ts, e, lt, is, same) = (suc i, t, ts, omega (arith, e), omega (arith, lt), is, same)

stands_from : (x : Front) (n : ℕ) (hs : Streams) → Contains (fronts_from n hs) x → Stands x n hs
stands_from x n [] (k, lt, is) = absurd (omega (arith, lt))
stands_from x n ([] ∷ hs) has = later x n [] hs (stands_from x (n + 1) hs has)
stands_from x n ((t ∷ ts) ∷ hs) (zero, lt, is) = let e : n ≡ x.1 = ap (λ (y : Front). y.1) is in (0, t, ts, omega (arith, e), omega arith, refl, ap (λ (y : Front). y.0) is)
stands_from x n ((t ∷ ts) ∷ hs) (suc k, lt, is) = later x n (t ∷ ts) hs (stands_from x (n + 1) hs (k, omega (arith, lt), is))

-- ---- none comes before a front

not_before_itself : (x : Front) → comes_before x x ≡ false
not_before_itself x =
    let a : key_cmp x.0 x.0 ≡ Equal = tied_itself nat_list_cmp_total x.0 in
    let b : nat_cmp x.1 x.1 ≡ Equal = tied_itself nat_cmp_total x.1 in
    rw (a, b) refl

-- a stream with a lower number doesn't have the key
lower_not_at : (x : Front) (key : List ℕ) (n : ℕ) → n < x.1 → comes_before (key, n) x ≡ false → bytes_eq x.0 key ≡ false
lower_not_at x key n lt h = by (bytes_eq x.0 key) refl
  where
    by : (b : Bool) → bytes_eq x.0 key ≡ b → b ≡ false
    by true e =
        let a : key_cmp key x.0 ≡ Equal = subst (λ (k : List ℕ). key_cmp k x.0 ≡ Equal) ((bytes_eq-Decides x.0 key).0 e) (tied_itself nat_list_cmp_total x.0) in
        let b : nat_cmp n x.1 ≡ Less = sym (nat_cmp_is n x.1 Less lt) in
        let before : comes_before (key, n) x ≡ true = rw (a, b) refl in
        absurd (false≢true (sym h ∙ before))
    by false e = refl

not_before_low : (x y : Front) → comes_before y x ≡ false → is_le (key_cmp x.0 y.0) ≡ true
not_before_low x y h = by (key_cmp x.0 y.0) refl
  where
    by : (o : Ordering) → key_cmp x.0 y.0 ≡ o → is_le (key_cmp x.0 y.0) ≡ true
    by Less e = ap is_le e
    by Equal e = ap is_le e
    by Greater e =
        let less : key_cmp y.0 x.0 ≡ Less = nat_list_cmp_total.antisymm y.0 x.0 ∙ ap ordering_reverse e in
        absurd (false≢true (sym h ∙ ap (λ o. is_lt (ordering_then o (nat_cmp y.1 x.1))) less))

not_below_from : (x : Front) (n : ℕ) (hs : Streams) → IsFirstFront x (fronts_from n hs) → AllByRecursion (NotBelow x.0) hs
not_below_from x n [] h = tt
not_below_from x n ([] ∷ hs) h = (tt, not_below_from x (n + 1) hs h)
not_below_from x n ((t ∷ ts) ∷ hs) h = (not_before_low x (t.key, n) h.0, not_below_from x (n + 1) hs h.1)

-- ---- the first of all fronts

module _ (fronts : List Front) (hs : Streams) (are : AreFronts fronts hs) where
  pub none_left : fronts ≡ [] → AllByRecursion (λ (h : List (RankedTerm TermInfo)). h ≡ []) hs
  none_left e = of 0 hs (carried (λ y. ⊥) fronts (fronts_from 0 hs) are (subst (AllByRecursion (λ (y : Front). ⊥)) (sym e) tt))
    where
      of : (n : ℕ) (gs : Streams) → AllByRecursion (λ (y : Front). ⊥) (fronts_from n gs) → AllByRecursion (λ (h : List (RankedTerm TermInfo)). h ≡ []) gs
      of n [] h = tt
      of n ([] ∷ gs) h = (refl, of (n + 1) gs h)
      of n ((t ∷ ts) ∷ gs) h = absurd h.0

  module _ (x : Front) where
    pub first_low : IsFirstFront x fronts → AllByRecursion (NotBelow x.0) hs
    first_low h = not_below_from x 0 hs (carried (λ y. comes_before y x ≡ false) fronts (fronts_from 0 hs) are h)

    pub first_noted : Contains fronts x → 0 < length (standings_first 0 x.0 hs)
    first_noted has = of (stands_from x 0 hs (shared (fronts_from 0 hs) fronts (λ f. sym (are f)) x has))
      where
        of : Stands x 0 hs → 0 < length (standings_first 0 x.0 hs)
        of (i, t, ts, e, lt, is, same) = some_from hs i 0 x.0 lt (let n : length (get_or hs i []) ≡ suc (length ts) = ap length is in omega (arith, n)) (ap (λ (h : List (RankedTerm TermInfo)). (first h).key) is ∙ same)

-- ---- one stream goes on

without_key : (t : RankedTerm TermInfo) (ts : List (RankedTerm TermInfo)) → Ascends (t ∷ ts) → first_with t.key ts ≡ None
unfolding IsStrictlySortedBy
without_key t [] h = refl
without_key t (u ∷ us) h = cond-false (bytes_eq t.key u.key) (Some (u.ord, u.info)) None (differs t.key u.key h.0.0)

rest_stays : (t : RankedTerm TermInfo) (ts : List (RankedTerm TermInfo)) → Ascends (t ∷ ts) → behind t.key ts ≡ ts
unfolding IsStrictlySortedBy
rest_stays t [] h = refl
rest_stays t (u ∷ us) h = cond-false (bytes_eq t.key u.key) us (u ∷ us) (differs t.key u.key h.0.0)

rest_low : (t : RankedTerm TermInfo) (ts : List (RankedTerm TermInfo)) → Ascends (t ∷ ts) → NotBelow t.key ts
unfolding IsStrictlySortedBy
rest_low t [] h = tt
rest_low t (u ∷ us) h = ap is_le h.0.0

itself : (t : RankedTerm TermInfo) → bytes_eq t.key t.key ≡ true
itself t = (bytes_eq-Decides t.key t.key).1 refl

-- of a front that none comes before the stream is noted first, and then those that are noted once it has gone on
noted_one : (t : RankedTerm TermInfo) (ts : List (RankedTerm TermInfo)) (n m i : ℕ) (hs : Streams) → n + i ≡ m → i < length hs → get_or hs i [] ≡ t ∷ ts → first_with t.key ts ≡ None → IsFirstFront (t.key, m) (fronts_from n hs) → standings_first n t.key hs ≡ standing_of m t ∷ standings_first n t.key (set hs i ts)
noted_one t ts n m i [] e lt is other h = absurd (omega (arith, lt))
noted_one t ts n m zero (g ∷ hs) e lt is other h =
    let z : n ≡ m = omega (arith, e) in
    let here : first_with t.key g ≡ Some (t.ord, t.info) = ap (first_with t.key) is ∙ cond-true (bytes_eq t.key t.key) (Some (t.ord, t.info)) None (itself t) in
    rw (here, other) (ap (λ k. standing_of k t ∷ standings_first (n + 1) t.key hs) z)
noted_one t ts n m (suc i) ([] ∷ hs) e lt is other h = noted_one t ts (n + 1) m i hs (omega (arith, e)) (omega (arith, lt)) is other h
noted_one t ts n m (suc i) ((u ∷ us) ∷ hs) e lt is other h = rw (lower_not_at (t.key, m) u.key n (omega (arith, e)) h.0) (noted_one t ts (n + 1) m i hs (omega (arith, e)) (omega (arith, lt)) is other h.1)

-- what is known of a stream whose front was taken out, and of the streams once it has gone on
pub record Passes (key : List ℕ) (i : ℕ) (rest : List Front) (hs new : Streams) : Type 0 where
  pub place : i < length hs
  pub stands : 0 < length (get_or hs i [])
  pub noted : standings_first 0 key hs ≡ standing_of i (first (get_or hs i [])) ∷ standings_first 0 key new
  pub passed : map (behind key) new ≡ map (behind key) hs
  pub order : AllByRecursion Ascends new
  pub low : AllByRecursion (NotBelow key) new
  pub fronts : (news : List Front) → IsPermutation (front_at i (drop 1 (get_or hs i [])) ++ rest) news → AreFronts news new

abbrev gone_on : ℕ → Streams → Streams
gone_on i hs = set hs i (drop 1 (get_or hs i []))

all_set : (P : List (RankedTerm TermInfo) → Type 0) (hs : Streams) (i : ℕ) (h : List (RankedTerm TermInfo)) → AllByRecursion P hs → P h → AllByRecursion P (set hs i h)
all_set P hs i h all p = recursion_from_All P (set hs i h) (All-set P hs i h p (All-from_recursion P hs all))

module _ (i : ℕ) (t : RankedTerm TermInfo) (ts : List (RankedTerm TermInfo)) (rest : List Front) (hs : Streams) (place : i < length hs) (is : get_or hs i [] ≡ t ∷ ts) (order : AllByRecursion Ascends hs) (low : AllByRecursion (NotBelow t.key) hs) (sums : SameFronts ((t.key, i) ∷ rest) (fronts_from 0 hs)) (all : IsFirstFront (t.key, i) (fronts_from 0 hs)) where
  ascends : Ascends (t ∷ ts)
  ascends = subst Ascends is (All-from_recursion Ascends hs order i [] place)

  went_on : Passes t.key i rest hs (set hs i ts)
  went_on = record {
    place = place;
    stands = let n : length (get_or hs i []) ≡ suc (length ts) = ap length is in omega (arith, n);
    noted = noted_one t ts 0 i i hs (omega arith) place is (without_key t ts ascends) all ∙ ap (λ (h : List (RankedTerm TermInfo)). standing_of i (first h) ∷ standings_first 0 t.key (set hs i ts)) (sym is);
    passed = map-set_same (behind t.key) hs i ts [] (rest_stays t ts ascends ∙ sym (cond-true (bytes_eq t.key t.key) ts (t ∷ ts) (itself t)) ∙ sym (ap (behind t.key) is));
    order = all_set Ascends hs i ts order (rest_ascends t ts ascends);
    low = all_set (NotBelow t.key) hs i ts low (rest_low t ts ascends);
    fronts = λ news added f.
        let old : sum_by f (front_at i (get_or hs i [])) ≡ sum_by f ((t.key, i) ∷ []) = ap (λ (h : List (RankedTerm TermInfo)). sum_by f (front_at i h)) is in
        let new : sum_by f (front_at i (drop 1 (get_or hs i []))) ≡ sum_by f (front_at i ts) = ap (λ (h : List (RankedTerm TermInfo)). sum_by f (front_at i (drop 1 h))) is in
        omega (arith, old, new, joined_sum f (front_at i (drop 1 (get_or hs i []))) rest news added, sums f, sum_set f 0 i i hs ts (omega arith) place, sum_by-cons f (t.key, i) rest, sum_by-cons f (t.key, i) []);
  }

pub passes : (key : List ℕ) (i : ℕ) (fronts rest : List Front) (hs : Streams) → AreFronts fronts hs → AllByRecursion Ascends hs → AllByRecursion (NotBelow key) hs → IsPermutation fronts ((key, i) ∷ rest) → IsFirstFront (key, i) rest → Passes key i rest hs (gone_on i hs)
passes key i fronts rest hs are order low perm first = of (stands_from x 0 hs (shared (fronts_from 0 hs) (x ∷ rest) (λ f. sym (sums f)) x (0, omega arith, refl)))
  where
    x : Front
    x = (key, i)

    sums : SameFronts (x ∷ rest) (fronts_from 0 hs)
    sums f = sum_by-IsPermutation f fronts (x ∷ rest) perm ∙ are f

    all : IsFirstFront x (fronts_from 0 hs)
    all = carried (λ y. comes_before y x ≡ false) (x ∷ rest) (fronts_from 0 hs) sums (not_before_itself x, first)

    of : Stands x 0 hs → Passes key i rest hs (gone_on i hs)
    of (j, t, ts, e, lt, at, same) =
        let here : j ≡ i = omega (arith, e) in
        let is : get_or hs i [] ≡ t ∷ ts = subst (λ (m : ℕ). get_or hs m [] ≡ t ∷ ts) here at in
        let place : i < length hs = omega (arith, here, lt) in
        let go : AllByRecursion (NotBelow t.key) hs → SameFronts ((t.key, i) ∷ rest) (fronts_from 0 hs) → IsFirstFront (t.key, i) (fronts_from 0 hs) → Passes t.key i rest hs (set hs i ts) = went_on i t ts rest hs place is order in
        subst (λ (g : List (RankedTerm TermInfo)). Passes key i rest hs (set hs i g)) (sym (ap (drop 1) is))
        (subst (λ (k : List ℕ). AllByRecursion (NotBelow k) hs → SameFronts ((k, i) ∷ rest) (fronts_from 0 hs) → IsFirstFront (k, i) (fronts_from 0 hs) → Passes k i rest hs (set hs i ts)) same go low sums all)

-- what was noted, with one more
pub noted_more : {X : Type 0} (f : Standing TermInfo → X) (done more : List X) (s : Standing TermInfo) (left rest : List (Standing TermInfo)) (all : List X) → more ≡ done ++ f s ∷ [] → left ≡ s ∷ rest → done ++ map f left ≡ all → more ++ map f rest ≡ all
noted_more f done more s left rest all e l h = ap (λ xs. xs ++ map f rest) e ∙ append_assoc done (f s ∷ []) (map f rest) ∙ ap (λ xs. done ++ map f xs) (sym l) ∙ h

-- and with none more
pub noted_all : {X : Type 0} (f : Standing TermInfo → X) (done : List X) (left : List (Standing TermInfo)) (all : List X) → left ≡ [] → done ++ map f left ≡ all → done ≡ all
noted_all f done left all e h = sym (append-nil done) ∙ ap (λ xs. done ++ map f xs) (sym e) ∙ h
