-- Terms in byte order, with one more after them.
use Rattle.std.proofs.Common.{◌≡◌, ◌⊎◌, ℕ, zero, suc, ◌-◌, ◌<◌, ◌≤◌, false, List, [], ◌∷◌, ◌++◌, length, get_or, slice_get, Some, refl, sym, ap, subst, ◌∙◌, arith, inl, inr}
use Rattle.std.specs.Prelude.{All}
use Rattle.std.specs.Cmp.Lexicographic.{slice_cmp}
use Rattle.std.specs.List.{AllByRecursion}
use Rattle.std.specs.List.Sorted.{IsStrictlySortedBy}
use Rattle.std.specs.Ordering.{nat_cmp, is_gt}
use Rattle.std.specs.declared.cmp.Ordering.{Ordering}
use Rattle.std.specs.declared.cmp.Ordering.TheVariants.{Less, Equal, Greater}
use Rattle.std.proofs.lemmas.Bool.{cases_lt, false≢true}
use Rattle.std.proofs.lemmas.Cmp.{nat_list_cmp_total}
use Rattle.std.proofs.lemmas.List.Elements.{recursion_from_All}
use Rattle.std.proofs.lemmas.Map.Keys.{Less-from_sorted}
use Rattle.std.proofs.lemmas.Option.{get_or_from_slice_get, none-some, slice_get_within}
use Rattle.seg_common.proofs.Bytes.{same_term}
use Rattle.seg_column_merge_parts.specs.TermHeads.{IsLast}

abbrev pub Below : List ℕ → List ℕ → Type 0
Below x y = slice_cmp nat_cmp x y ≡ Less

abbrev pub Ascends : List (List ℕ) → Type 0
Ascends terms = IsStrictlySortedBy (slice_cmp nat_cmp) terms

-- a term is above all, or is the last one
abbrev pub Follows : List (List ℕ) → List ℕ → Type 0
Follows terms term = All (λ x. Below x term) terms ⊎ IsLast terms term

all_with : (P : List ℕ → Type 0) (xs : List (List ℕ)) (x : List ℕ) → AllByRecursion P xs → P x
    → AllByRecursion P (xs ++ x ∷ [])
all_with P [] x all one = (one, tt)
all_with P (y ∷ ys) x all one = (all.0, all_with P ys x all.1 one)

ascends_with : (terms : List (List ℕ)) (term : List ℕ) → Ascends terms → AllByRecursion (λ x. Below x term) terms
    → Ascends (terms ++ term ∷ [])
unfolding IsStrictlySortedBy
ascends_with [] term up below = (tt, tt)
ascends_with (x ∷ xs) term up below = (all_with (Below x) xs term up.0 below.0, ascends_with xs term up.1 below.1)

pub ascends_more : (terms : List (List ℕ)) (term : List ℕ) → Ascends terms → All (λ x. Below x term) terms
    → Ascends (terms ++ term ∷ [])
ascends_more terms term up below = ascends_with terms term up (recursion_from_All (λ x. Below x term) terms below)

pub last_of : (terms : List (List ℕ)) (term : List ℕ) → slice_get (terms ++ term ∷ []) (length terms) ≡ Some term
last_of [] term = refl
last_of (x ∷ xs) term = last_of xs term

pub stays : (xs ys : List (List ℕ)) (i : ℕ) (x : List ℕ) → slice_get xs i ≡ Some x → slice_get (xs ++ ys) i ≡ Some x
stays [] ys i x is = absurd (none-some x is)
stays (y ∷ xs) ys zero x is = is
stays (y ∷ xs) ys (suc i) x is = stays xs ys i x is

-- all are at most the last one
module _ (terms : List (List ℕ)) (up : Ascends terms) (last : List ℕ) (is : IsLast terms last) where
  within : length terms - 1 < length terms
  within = slice_get_within terms (length terms - 1) last is

  below_next : (next : List ℕ) → Below last next → All (λ x. Below x next) terms
  below_next next less k d lt = by (cases_lt k (length terms - 1))
    where
      at_end : get_or terms (length terms - 1) d ≡ last
      at_end = get_or_from_slice_get terms (length terms - 1) last d is

      by : (k < length terms - 1) ⊎ (length terms - 1 ≤ k) → Below (get_or terms k d) next
      by (inl before) =
          nat_list_cmp_total.trans (get_or terms k d) last next
          (subst (Below (get_or terms k d)) at_end
          (Less-from_sorted (slice_cmp nat_cmp) terms k (length terms - 1) d up before within)) less
      by (inr le) =
          let same : length terms - 1 ≡ k = omega (arith, le, lt) in
          subst (λ (x : List ℕ). Below x next)
          (sym at_end ∙ ap (λ (n : ℕ). get_or terms n d) same) less

  pub follows_last : (next : List ℕ) → is_gt (slice_cmp nat_cmp last next) ≡ false → Follows terms next
  follows_last next le = by (slice_cmp nat_cmp last next) refl
    where
      by : (o : Ordering) → slice_cmp nat_cmp last next ≡ o → Follows terms next
      by Less e = inl (below_next next e)
      by Equal e = inr (subst (IsLast terms) (same_term last next e) is)
      by Greater e = absurd (false≢true (sym le ∙ ap is_gt e))
