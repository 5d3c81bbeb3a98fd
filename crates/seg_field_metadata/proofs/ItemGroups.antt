-- Items in groups, each in one: what the groups have together is what all items have.
use Rattle.std.proofs.Common.{◌≡◌, ℕ, ◌+◌, Bool, true, false, cond, List, [], ◌∷◌, refl, ap, arith}
use Rattle.std.specs.List.{AllByRecursion, filter, sum_by}
use Rattle.std.proofs.lemmas.List.Sums.{sum_by-cons}

module _ {S T : Type 0} (among : S → T → Bool) (f : T → ℕ) where
  -- what a group has of some items
  abbrev pub group : List T → S → ℕ
  group ts s = sum_by f (filter (among s) ts)

  -- what it has of one
  abbrev pub share_of : T → S → ℕ
  share_of t s = cond (among s t) (f t) 0

  none : (ss : List S) → sum_by (group []) ss ≡ 0
  none [] = refl
  none (s ∷ ss) = omega (arith, sum_by-cons (group []) s ss, none ss)

  one_more : (t : T) (ts : List T) (s : S) → group (t ∷ ts) s ≡ share_of t s + group ts s
  one_more t ts s = by (among s t)
    where
      by : (b : Bool) → sum_by f (cond b (t ∷ filter (among s) ts) (filter (among s) ts)) ≡ cond b (f t) 0 + sum_by f (filter (among s) ts)
      by true = sum_by-cons f t (filter (among s) ts)
      by false = omega arith

  all_more : (t : T) (ts : List T) (ss : List S) → sum_by (group (t ∷ ts)) ss ≡ sum_by (share_of t) ss + sum_by (group ts) ss
  all_more t ts [] = omega arith
  all_more t ts (s ∷ ss) =
      omega (arith, sum_by-cons (group (t ∷ ts)) s ss, sum_by-cons (share_of t) s ss, sum_by-cons (group ts) s ss, one_more t ts s, all_more t ts ss)

  pub in_one_each : (ts : List T) (ss : List S) → AllByRecursion (λ t. sum_by (share_of t) ss ≡ f t) ts → sum_by (group ts) ss ≡ sum_by f ts
  in_one_each [] ss once = none ss
  in_one_each (t ∷ ts) ss once = omega (arith, all_more t ts ss, once.0, in_one_each ts ss once.1, sum_by-cons f t ts)

  pub in_none : (t : T) (ss : List S) → AllByRecursion (λ s. among s t ≡ false) ss → sum_by (share_of t) ss ≡ 0
  in_none t [] others = refl
  in_none t (s ∷ ss) others = omega (arith, sum_by-cons (share_of t) s ss, ap (λ b. cond b (f t) 0) others.0, in_none t ss others.1)
