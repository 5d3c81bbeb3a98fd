-- The last values of fields, as pairs are put into a map one after another.
use Rattle.std.proofs.Common.{◌≡◌, ℕ, Bool, true, false, cond, nat_eq, nat_cmp, List, [], ◌∷◌, map, Option, Some, None, refl, sym, ap, ◌∙◌}
use Rattle.std.specs.BTreeMap.{is_at}
use Rattle.std.specs.Map.{lookup}
use Rattle.std.specs.Option.{option_map, option_or}
use Rattle.seg_common.proofs.Numbers.{is_eq-nat_cmp, nat_eq-sym}
use Rattle.seg_values.specs.LastValues.{last_value, HasLastValues, PutsValue}
use Rattle.seg_values.specs.Tree.{Tree, Document}

later : (a old : Option Tree) (b : Bool) (t : Tree) → option_or (option_or a (cond b (Some t) None)) old ≡ option_or a (cond b (Some t) old)
later None old true t = refl
later None old false t = refl
later (Some x) old b t = refl

-- what is found in the map, and what pairs that are left change of it
abbrev pub LeavesLast : List (ℕ × Tree) → Document → Document → Type 0
LeavesLast entries left all = (field : ℕ) → option_or (last_value field left) (lookup (nat_eq field) entries) ≡ last_value field all

or-none : (a : Option Tree) → option_or a None ≡ a
or-none None = refl
or-none (Some x) = refl

pub begun : (entries : List (ℕ × Tree)) (left all : Document) → entries ≡ [] → left ≡ all → LeavesLast entries left all
begun entries left all none same field =
    ap (λ (es : List (ℕ × Tree)). option_or (last_value field left) (lookup (nat_eq field) es)) none ∙ or-none (last_value field left) ∙ ap (last_value field) same

pub ended : (entries : List (ℕ × Tree)) (left all : Document) → left ≡ [] → LeavesLast entries left all → HasLastValues entries all
ended entries left all none so_far field = sym (ap (λ (l : Document). option_or (last_value field l) (lookup (nat_eq field) entries)) none) ∙ so_far field

pub one_less : (entries more : List (ℕ × Tree)) (p : ℕ × Tree) (left rest all : Document) → left ≡ p ∷ rest
    → PutsValue entries p more
    → LeavesLast entries left all → LeavesLast more rest all
one_less entries more p left rest all step found so_far field =
    ap (option_or (last_value field rest)) (found field)
    ∙ sym (later (last_value field rest) (lookup (nat_eq field) entries) (nat_eq field p.0) p.1)
    ∙ ap (λ l. option_or (last_value field l) (lookup (nat_eq field) entries)) (sym step)
    ∙ so_far field

module _ {X : Type 0} (tree : X → Tree) where
  shown-cond : (b : Bool) (x : X) (old : Option X) → option_map tree (cond b (Some x) old) ≡ cond b (Some (tree x)) (option_map tree old)
  shown-cond true x old = refl
  shown-cond false x old = refl

  lookup-shown : (test : ℕ → Bool) (es : List (ℕ × X)) → lookup test (map (λ e. (e.0, tree e.1)) es) ≡ option_map tree (lookup test es)
  lookup-shown test [] = refl
  lookup-shown test (e ∷ es) = ap (cond (test e.0) (Some (tree e.1))) (lookup-shown test es) ∙ sym (shown-cond (test e.0) e.1 (lookup test es))

  -- a map that gets a value at a field
  pub found_more : (es fs : List (ℕ × X)) (k : ℕ) (x : X) → ((q : ℕ) → lookup (nat_eq q) fs ≡ cond (nat_eq k q) (Some x) (lookup (nat_eq q) es))
      → (field : ℕ) → lookup (nat_eq field) (map (λ e. (e.0, tree e.1)) fs) ≡ cond (nat_eq field k) (Some (tree x)) (lookup (nat_eq field) (map (λ e. (e.0, tree e.1)) es))
  found_more es fs k x h field =
      lookup-shown (nat_eq field) fs ∙ ap (option_map tree) (h field) ∙ shown-cond (nat_eq k field) x (lookup (nat_eq field) es)
      ∙ ap (λ o. cond (nat_eq k field) (Some (tree x)) o) (sym (lookup-shown (nat_eq field) es))
      ∙ ap (λ (b : Bool). cond b (Some (tree x)) (lookup (nat_eq field) (map (λ e. (e.0, tree e.1)) es))) (nat_eq-sym k field)

  -- the same, where fields are found by their order
  pub ordered_more : (es fs : List (ℕ × X)) (k : ℕ) (x : X) → ((q : ℕ) → lookup (is_at (nat_cmp q)) fs ≡ cond (is_at (nat_cmp k) q) (Some x) (lookup (is_at (nat_cmp q)) es))
      → (field : ℕ) → lookup (nat_eq field) (map (λ e. (e.0, tree e.1)) fs) ≡ cond (nat_eq field k) (Some (tree x)) (lookup (nat_eq field) (map (λ e. (e.0, tree e.1)) es))
  ordered_more es fs k x h = found_more es fs k x (λ q. sym (λ i. lookup (λ j. is_eq-nat_cmp q j i) fs) ∙ h q ∙ (λ i. cond (is_eq-nat_cmp k q i) (Some x) (lookup (λ j. is_eq-nat_cmp q j i) es)))
