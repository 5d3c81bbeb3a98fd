-- Between reversed bounds there is no key.
use Rattle.std.proofs.Common.{◌≡◌, ◌⊎◌, inl, inr, ℕ, Bool, true, false, cond, ◌&&◌, List, [], ◌∷◌, filter, sym, refl, ap, ◌∙◌}
use mathlib.Core.Bool.{true≢false}
use Rattle.std.specs.Ordering.{is_lt, is_le, ordering_reverse}
use Rattle.std.specs.declared.cmp.Ordering.{Ordering}
use Rattle.std.specs.declared.cmp.Ordering.TheVariants.{Less, Equal, Greater}
use Rattle.std.specs.Cmp.Lexicographic.{nat_list_cmp_total}
use Rattle.std.specs.declared.ops.Bound.{Bound}
use Rattle.seg_termdict.specs.SortedTerms.{TermRange, RankedTerm, key_cmp, is_from, is_up_to, is_within, in_direction, ranked}
use Rattle.seg_termdict.specs.Laws.{IsBoundAt, ReversedBoundsGiveNone}

le_cases : (o : Ordering) → is_le o ≡ true → (o ≡ Less) ⊎ (o ≡ Equal)
le_cases Less e = inl refl
le_cases Equal e = inr refl
le_cases Greater e = absurd (true≢false (sym e))

le-of-lt : (o : Ordering) → is_lt o ≡ true → is_le o ≡ true
le-of-lt Less e = refl
le-of-lt Equal e = absurd (true≢false (sym e))
le-of-lt Greater e = absurd (true≢false (sym e))

module _ (a b c : List ℕ) (less : key_cmp a b ≡ Less) where
  below_equal : key_cmp b c ≡ Equal → key_cmp a c ≡ Less
  below_equal e =
      nat_list_cmp_total.antisymm a c ∙ ap ordering_reverse (sym (nat_list_cmp_total.congr b c a e)) ∙ sym (nat_list_cmp_total.antisymm a b) ∙ less

  -- a key below another is below every key that is not below that one
  below : is_le (key_cmp b c) ≡ true → key_cmp a c ≡ Less
  below e = elim (le_cases (key_cmp b c) e) [ inl l ↦ nat_list_cmp_total.trans a b c less l | inr q ↦ below_equal q ]

  -- and that one is past it
  past : is_le (key_cmp b c) ≡ true → key_cmp c a ≡ Greater
  past e = nat_list_cmp_total.antisymm c a ∙ ap ordering_reverse (below e)

at_least : (bound : Bound (List ℕ)) (low key : List ℕ) → IsBoundAt low bound → is_from bound key ≡ true → is_le (key_cmp low key) ≡ true
at_least bound low key (inl p) e = sym (ap (λ b. is_from b key) p) ∙ e
at_least bound low key (inr p) e = le-of-lt (key_cmp low key) (sym (ap (λ b. is_from b key) p) ∙ e)

not_up_to : (bound : Bound (List ℕ)) (high key : List ℕ) → IsBoundAt high bound → key_cmp key high ≡ Greater → is_up_to bound key ≡ false
not_up_to bound high key (inl p) e = ap (λ b. is_up_to b key) p ∙ ap is_le e
not_up_to bound high key (inr p) e = ap (λ b. is_up_to b key) p ∙ ap is_lt e

module _ (range : TermRange) (low high : List ℕ) (lower : IsBoundAt low range.lower) (upper : IsBoundAt high range.upper) (reversed : key_cmp high low ≡ Less) where
  none_within : (key : List ℕ) (b : Bool) → is_from range.lower key ≡ b → is_within range key ≡ false
  none_within key true e = ap (λ b. b && is_up_to range.upper key) e ∙ not_up_to range.upper high key upper (past high low key reversed (at_least range.lower low key lower e))
  none_within key false e = ap (λ b. b && is_up_to range.upper key) e

  none_left : {Info : Type 0} (accepts : List ℕ → Bool) (ts : List (RankedTerm Info)) → filter (λ (t : RankedTerm Info). is_within range t.key && accepts t.key) ts ≡ []
  none_left accepts [] = refl
  none_left {Info} accepts (t ∷ ts) =
      ap (λ b. cond (b && accepts t.key) (t ∷ filter (λ (u : RankedTerm Info). is_within range u.key && accepts u.key) ts) (filter (λ (u : RankedTerm Info). is_within range u.key && accepts u.key) ts)) (none_within t.key (is_from range.lower t.key) refl)
      ∙ none_left accepts ts

direction-none : {X : Type 0} (backward : Bool) → in_direction {X = X} backward [] ≡ []
direction-none true = refl
direction-none false = refl

pub reversed_bounds_give_none : (Info : Type 0) → ReversedBoundsGiveNone Info
reversed_bounds_give_none Info terms accepts range low high lower upper reversed =
    ap (in_direction range.backward) (none_left range low high lower upper reversed accepts (ranked terms)) ∙ direction-none range.backward
