-- How deep the parts of a tree are, against a limit.
use Rattle.std.proofs.Common.{◌≡◌, ℕ, suc, ◌+◌, ◌-◌, Bool, true, false, max, List, Some, drop, refl, sym, ap, ◌∙◌, arith}
use Rattle.std.specs.Prelude.{nat_le}
use Rattle.std.specs.List.{slice_get}
use Rattle.std.proofs.lemmas.Bool.Decides.{nat_tests}
use Rattle.seg_common.proofs.Lists.{drop-slice_get}
use Rattle.seg_values.specs.Tree.{Tree, levels, trees_from, members_from, most_levels, most_member_levels}

past : (a b n : ℕ) → nat_le a n ≡ false → nat_le (max a b) n ≡ false
past a b n h = grind (arith, nat_tests)

within : (a b n : ℕ) → nat_le a n ≡ true → nat_le (max a b) n ≡ nat_le b n
within a b n h = by_case (nat_le b n) refl
  where
    by_case : (t : Bool) → nat_le b n ≡ t → nat_le (max a b) n ≡ nat_le b n
    by_case true e = let all : nat_le (max a b) n ≡ true = grind (arith, nat_tests) in all ∙ sym e
    by_case false e = let all : nat_le (max a b) n ≡ false = grind (arith, nat_tests) in all ∙ sym e

-- one more level is within one more
pub level_more : (k most : ℕ) → (most ≡ 0 → ⊥) → nat_le k (most - 1) ≡ nat_le (suc k) most
level_more k most some = by_case (nat_le k (most - 1)) refl
  where
    by_case : (t : Bool) → nat_le k (most - 1) ≡ t → nat_le k (most - 1) ≡ nat_le (suc k) most
    by_case true e = let all : nat_le (suc k) most ≡ true = grind (arith, nat_tests) in e ∙ sym all
    by_case false e = let all : nat_le (suc k) most ≡ false = grind (arith, nat_tests) in e ∙ sym all

module _ (n : ℕ) (t : Tree) where
  module _ (ts : List Tree) (i : ℕ) (at : slice_get ts i ≡ Some t) where
    here : most_levels (trees_from (drop i ts)) ≡ max (levels t) (most_levels (trees_from (drop (i + 1) ts)))
    here = ap (λ l. most_levels (trees_from l)) (drop-slice_get ts i t at)

    pub tree_within : nat_le (levels t) n ≡ true → nat_le (most_levels (trees_from (drop (i + 1) ts))) n ≡ nat_le (most_levels (trees_from (drop i ts))) n
    tree_within h = sym (ap (λ k. nat_le k n) here ∙ within (levels t) _ n h)

    pub tree_past : nat_le (levels t) n ≡ false → false ≡ nat_le (most_levels (trees_from (drop i ts))) n
    tree_past h = sym (ap (λ k. nat_le k n) here ∙ past (levels t) _ n h)

  module _ (ms : List (List ℕ × Tree)) (i : ℕ) (k : List ℕ) (at : slice_get ms i ≡ Some (k, t)) where
    member_here : most_member_levels (members_from (drop i ms)) ≡ max (levels t) (most_member_levels (members_from (drop (i + 1) ms)))
    member_here = ap (λ l. most_member_levels (members_from l)) (drop-slice_get ms i (k, t) at)

    pub member_within : nat_le (levels t) n ≡ true → nat_le (most_member_levels (members_from (drop (i + 1) ms))) n ≡ nat_le (most_member_levels (members_from (drop i ms))) n
    member_within h = sym (ap (λ k. nat_le k n) member_here ∙ within (levels t) _ n h)

    pub member_past : nat_le (levels t) n ≡ false → false ≡ nat_le (most_member_levels (members_from (drop i ms))) n
    member_past h = sym (ap (λ k. nat_le k n) member_here ∙ past (levels t) _ n h)
