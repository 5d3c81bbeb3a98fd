-- Lists that are the same up to a place, and what trees, pairs and addresses are known by.
use Rattle.std.proofs.Common.{◌≡◌, ℕ, zero, suc, ◌+◌, ◌<◌, ◌/◌, ◌%◌, List, [], ◌∷◌, length, Some, take, get_or, map, refl, sym, ap, subst, ◌∙◌, arith}
use Rattle.std.specs.Prelude.{is_some, not, nat_eq, ◌&&◌, Bool, true, false}
use mathlib.Core.Bool.{true≢false}
use Rattle.std.specs.Bool.{Decides}
use Rattle.std.specs.List.{slice_get}
use Rattle.std.proofs.lemmas.List.{length-map}
use Rattle.std.proofs.lemmas.Bool.Decides.{Decides-eqb, Decides-and, Decides-like}
use Rattle.std.specs.Net.Addr.{octets_of}
use Rattle.std.proofs.lemmas.Bool.{not-true, not-false}
use Rattle.seg_values.specs.ValueCodes.{tree_code}
use Rattle.seg_tokens.specs.CodeEquality.{same_by, same_by-decides}
use Rattle.seg_values.specs.Tree.{Tree, array, object, trees_from, members_from}

module _ {Y : Type 0} where
  -- one more item is the same
  pub more_same : (us vs : List Y) (i : ℕ) (u v : Y) → slice_get us i ≡ Some u → slice_get vs i ≡ Some v → u ≡ v → take i us ≡ take i vs → take (i + 1) us ≡ take (i + 1) vs
  more_same [] vs i u v p q e before = absurd (true≢false (sym (ap is_some p)))
  more_same (x ∷ us) [] i u v p q e before = absurd (true≢false (sym (ap is_some q)))
  more_same (x ∷ us) (y ∷ vs) zero u v p q e before = let same : x ≡ y = cc in ap (λ z. z ∷ []) same
  more_same (x ∷ us) (y ∷ vs) (suc i) u v p q e before =
      let same : x ≡ y = cc in
      let rest : take i us ≡ take i vs = cc in
      let next : suc (i + 1) ≡ suc i + 1 = omega arith in
      subst (λ n. take n (x ∷ us) ≡ take n (y ∷ vs)) next (λ j. same j ∷ more_same us vs i u v p q e rest j)

  -- items at one place of two lists that are the same
  pub same_at : (us vs : List Y) (i : ℕ) (u v : Y) → slice_get us i ≡ Some u → slice_get vs i ≡ Some v → us ≡ vs → u ≡ v
  same_at us vs i u v p q e = let found : Some u ≡ Some v = sym p ∙ ap (λ l. slice_get l i) e ∙ q in cc

module _ {X Y : Type 0} (f : X → Y) where
  got : (xs : List X) (i : ℕ) (x : X) → i < length xs → x ≡ get_or xs i x → slice_get (map f xs) i ≡ Some (f x)
  got [] i x h p = absurd (omega arith)
  got (a ∷ xs) zero x h p = ap (λ z. Some (f z)) (sym p)
  got (a ∷ xs) (suc i) x h p = got xs i x (omega arith) p

  module _ (xs ys : List X) (us vs : List Y) (seen : map f xs ≡ us) (seen' : map f ys ≡ vs) (same_length : length us ≡ length vs) (i : ℕ) (x y : X) (within : i < length xs) (p : x ≡ get_or xs i x) (q : y ≡ get_or ys i y) where
    first : slice_get us i ≡ Some (f x)
    first = ap (λ l. slice_get l i) (sym seen) ∙ got xs i x within p

    second : slice_get vs i ≡ Some (f y)
    second = ap (λ l. slice_get l i) (sym seen') ∙ got ys i y (omega (arith, length-map xs f, length-map ys f, ap length seen, ap length seen')) q

    pub more_seen : f x ≡ f y → take i us ≡ take i vs → take (i + 1) us ≡ take (i + 1) vs
    more_seen = more_same us vs i (f x) (f y) first second

    pub seen_at : us ≡ vs → f x ≡ f y
    seen_at = same_at us vs i (f x) (f y) first second

-- the same octets are those of the same segments
pub octets_of-inj : (xs ys : List ℕ) → octets_of xs ≡ octets_of ys → xs ≡ ys
octets_of-inj [] [] e = refl
octets_of-inj [] (y ∷ ys) e = cc
octets_of-inj (x ∷ xs) [] e = cc
octets_of-inj (x ∷ xs) (y ∷ ys) e =
    let high : x / 256 ≡ y / 256 = cc in
    let low : x % 256 ≡ y % 256 = cc in
    let rest : octets_of xs ≡ octets_of ys = cc in
    let same : x ≡ y = omega arith in
    λ i. same i ∷ octets_of-inj xs ys rest i

trees_from-inj : (ts us : List Tree) → trees_from ts ≡ trees_from us → ts ≡ us
trees_from-inj [] [] e = refl
trees_from-inj [] (u ∷ us) e = cc
trees_from-inj (t ∷ ts) [] e = cc
trees_from-inj (t ∷ ts) (u ∷ us) e =
    let same : t ≡ u = cc in
    let rest : trees_from ts ≡ trees_from us = cc in
    λ i. same i ∷ trees_from-inj ts us rest i

members_from-inj : (ms ns : List (List ℕ × Tree)) → members_from ms ≡ members_from ns → ms ≡ ns
members_from-inj [] [] e = refl
members_from-inj [] (n ∷ ns) e = cc
members_from-inj (m ∷ ms) [] e = cc
members_from-inj (m ∷ ms) (n ∷ ns) e =
    let key : m.0 ≡ n.0 = cc in
    let value : m.1 ≡ n.1 = cc in
    let rest : members_from ms ≡ members_from ns = cc in
    λ i. (key i, value i) ∷ members_from-inj ms ns rest i

pub array-inj : (ts us : List Tree) → array (trees_from ts) ≡ array (trees_from us) → ts ≡ us
array-inj ts us e = trees_from-inj ts us cc

pub object-inj : (ms ns : List (List ℕ × Tree)) → object (members_from ms) ≡ object (members_from ns) → ms ≡ ns
object-inj ms ns e = members_from-inj ms ns cc

-- what the test of two pairs tells
module _ (differ : Bool) (p q : ℕ × Tree) (is : differ ≡ not (nat_eq p.0 q.0 && same_by tree_code p.1 q.1)) where
  pairs : Decides (nat_eq p.0 q.0 && same_by tree_code p.1 q.1) (p ≡ q)
  pairs = Decides-like (nat_eq p.0 q.0 && same_by tree_code p.1 q.1) (λ e i. (e.0 i, e.1 i)) (λ e. (ap (λ (p : ℕ × Tree). p.0) e, ap (λ (p : ℕ × Tree). p.1) e)) (Decides-and (nat_eq p.0 q.0) (same_by tree_code p.1 q.1) (Decides-eqb p.0 q.0) (same_by-decides tree_code p.1 q.1))

  pub same_pair : differ ≡ false → p ≡ q
  same_pair e = pairs.0 (not-false (nat_eq p.0 q.0 && same_by tree_code p.1 q.1) (sym is ∙ e))

  pub other_pair : differ ≡ true → p ≡ q → ⊥
  other_pair e same = true≢false (sym (pairs.1 same) ∙ not-true (nat_eq p.0 q.0 && same_by tree_code p.1 q.1) (sym is ∙ e))
