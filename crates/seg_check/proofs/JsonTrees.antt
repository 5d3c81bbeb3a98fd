-- The first leaf or key that a JSON field may not have, among the parts of a tree.
use Rattle.std.proofs.Common.{◌≡◌, ℕ, ◌+◌, true, false, List, Some, None, Option, drop, refl, sym, ap, ◌∙◌}
use Rattle.std.specs.List.{slice_get}
use Rattle.std.specs.Option.{option_or}
use Rattle.seg_common.proofs.Lists.{drop-slice_get}
use Rattle.seg_values.specs.Tree.{Tree, trees_from, members_from}
use Rattle.seg_values.specs.declared.error.TantivyError.{TantivyError}
use Rattle.seg_model.specs.DocumentCheck.{Cause, at_place, unless, json_key, has_no_zero, tree_refusal, trees_refusal, members_refusal}
use Rattle.seg_model.proofs.Exports.{none_map, some_none}

no_error : (r : Option TantivyError) → ((x : TantivyError) → r ≡ Some x → ⊥) → r ≡ None
no_error None h = refl
no_error (Some x) h = absurd (h x refl)

module _ (place : ℕ) where
  -- what is told of the first is told of both
  first_told : (o later : Option Cause) (x : TantivyError) → at_place place o ≡ Some x → at_place place (option_or o later) ≡ Some x
  first_told None later x h = absurd (some_none x (sym h))
  first_told (Some c) later x h = h

  module _ (r : Option TantivyError) (t : Tree) (is : r ≡ at_place place (tree_refusal t)) (none : (x : TantivyError) → r ≡ Some x → ⊥) where
    none_there : tree_refusal t ≡ None
    none_there = none_map (λ (c : Cause). c place) (tree_refusal t) (sym is ∙ no_error r none)

    pub tree_passes : (ts : List Tree) (i : ℕ) → slice_get ts i ≡ Some t → trees_refusal (trees_from (drop (i + 1) ts)) ≡ trees_refusal (trees_from (drop i ts))
    tree_passes ts i at =
        sym (ap (λ l. trees_refusal (trees_from l)) (drop-slice_get ts i t at) ∙ ap (λ o. option_or o (trees_refusal (trees_from (drop (i + 1) ts)))) none_there)

    pub member_passes : (ms : List (List ℕ × Tree)) (i : ℕ) (k : List ℕ) → slice_get ms i ≡ Some (k, t) → has_no_zero k ≡ true → members_refusal (members_from (drop (i + 1) ms)) ≡ members_refusal (members_from (drop i ms))
    member_passes ms i k at key =
        let rest = members_refusal (members_from (drop (i + 1) ms)) in
        sym (ap (λ l. members_refusal (members_from l)) (drop-slice_get ms i (k, t) at)
        ∙ ap (λ b. option_or (unless b json_key) (option_or (tree_refusal t) rest)) key
        ∙ ap (λ o. option_or o rest) none_there)

  module _ (r : Option TantivyError) (t : Tree) (is : r ≡ at_place place (tree_refusal t)) (x : TantivyError) (some : r ≡ Some x) where
    pub tree_refused : (ts : List Tree) (i : ℕ) → slice_get ts i ≡ Some t → Some x ≡ at_place place (trees_refusal (trees_from (drop i ts)))
    tree_refused ts i at =
        sym (ap (λ l. at_place place (trees_refusal (trees_from l))) (drop-slice_get ts i t at)
        ∙ first_told (tree_refusal t) (trees_refusal (trees_from (drop (i + 1) ts))) x (sym is ∙ some))

    pub member_refused : (ms : List (List ℕ × Tree)) (i : ℕ) (k : List ℕ) → slice_get ms i ≡ Some (k, t) → has_no_zero k ≡ true → Some x ≡ at_place place (members_refusal (members_from (drop i ms)))
    member_refused ms i k at key =
        let rest = members_refusal (members_from (drop (i + 1) ms)) in
        sym (ap (λ l. at_place place (members_refusal (members_from l))) (drop-slice_get ms i (k, t) at)
        ∙ ap (λ b. at_place place (option_or (unless b json_key) (option_or (tree_refusal t) rest))) key
        ∙ first_told (tree_refusal t) rest x (sym is ∙ some))

  pub key_refused : (ms : List (List ℕ × Tree)) (i : ℕ) (k : List ℕ) (t : Tree) → slice_get ms i ≡ Some (k, t) → has_no_zero k ≡ false → Some (json_key place) ≡ at_place place (members_refusal (members_from (drop i ms)))
  key_refused ms i k t at key =
      sym (ap (λ l. at_place place (members_refusal (members_from l))) (drop-slice_get ms i (k, t) at)
      ∙ ap (λ b. at_place place (option_or (unless b json_key) (option_or (tree_refusal t) (members_refusal (members_from (drop (i + 1) ms)))))) key)
