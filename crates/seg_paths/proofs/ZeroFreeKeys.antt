-- Keys and paths without a byte 0.
use Rattle.std.proofs.Common.{◌≡◌, ℕ, zero, suc, ◌+◌, ◌<◌, Bool, true, false, cond, List, [], ◌∷◌, ◌++◌, drop, get_or, Option, Some, None, refl, sym, ap, ◌∙◌, arith}
use Rattle.std.specs.Prelude.{◌==◌}
use Rattle.std.specs.List.{slice_get}
use Rattle.std.proofs.lemmas.Bool.{false≢true}
use Rattle.std.proofs.lemmas.Bool.Decides.{nat_tests}
use Rattle.std.proofs.lemmas.Option.{none-some, same_Some}
use Rattle.seg_values.specs.Tree.{Tree, trees_from, members_from}
use Rattle.seg_model.specs.DocumentCheck.{has_no_zero, json_key, tree_refusal, trees_refusal, members_refusal, unless}
use Rattle.seg_model.proofs.Exports.{or_first, or_second, unless_true, has_no_zero-append}
use Rattle.seg_paths.specs.Nodes.{Node, node_path, paths_with, IsPart, AreSound}
use Rattle.seg_paths.specs.Paths.{HaveNoZero, below}

pub no_zero-cons : (b : ℕ) (bs : List ℕ) → has_no_zero (b ∷ bs) ≡ true → (0 < b) × (has_no_zero bs ≡ true)
no_zero-cons b bs h = by (b == 0) refl h
  where
    by : (x : Bool) → (b == 0) ≡ x → cond x false (has_no_zero bs) ≡ true → (0 < b) × (has_no_zero bs ≡ true)
    by true e k = absurd (false≢true k)
    by false e k = (grind (arith, nat_tests), k)

one_more : (b : ℕ) (bs : List ℕ) → 0 < b → has_no_zero bs ≡ true → has_no_zero (b ∷ bs) ≡ true
one_more b bs some h = by (b == 0) refl
  where
    by : (x : Bool) → (b == 0) ≡ x → cond x false (has_no_zero bs) ≡ true
    by true e = absurd (let none : b ≡ 0 = grind (arith, nat_tests) in omega (arith, none, some))
    by false e = h

pub no_zero-drop : (n : ℕ) (xs : List ℕ) → has_no_zero xs ≡ true → has_no_zero (drop n xs) ≡ true
no_zero-drop zero xs h = h
no_zero-drop (suc n) [] h = refl
no_zero-drop (suc n) (x ∷ xs) h = no_zero-drop n xs (no_zero-cons x xs h).1

pub no_zero-part : (part : List ℕ) → IsPart part → has_no_zero part ≡ true
no_zero-part [] h = refl
no_zero-part (b ∷ bs) h = one_more b bs (omega (arith, h.0)) (no_zero-part bs h.1)

-- ---- the paths of a table

pub no_zero-at : (paths : List (List ℕ)) (k : ℕ) → HaveNoZero paths → has_no_zero (get_or paths k []) ≡ true
no_zero-at [] k h = refl
no_zero-at (p ∷ ps) zero h = h.0
no_zero-at (p ∷ ps) (suc k) h = no_zero-at ps k h.1

no_zero-below : (paths : List (List ℕ)) (above : Option ℕ) (part : List ℕ) → HaveNoZero paths → IsPart part
    → has_no_zero (below paths above part) ≡ true
no_zero-below paths None part h is = no_zero-part part is
no_zero-below paths (Some n) part h is = has_no_zero-append (get_or paths n []) (1 ∷ part) (no_zero-at paths n h)
    (one_more 1 part (omega arith) (no_zero-part part is))

all-push : (paths : List (List ℕ)) (path : List ℕ) → HaveNoZero paths → has_no_zero path ≡ true
    → HaveNoZero (paths ++ path ∷ [])
all-push [] path h k = (k, tt)
all-push (p ∷ ps) path h k = (h.0, all-push ps path h.1 k)

pub no_zero-paths : (before : List (List ℕ)) (ns : List Node) → HaveNoZero before → AreSound before ns
    → HaveNoZero (paths_with before ns)
no_zero-paths before [] h sound = h
no_zero-paths before (n ∷ ns) h sound = no_zero-paths (before ++ node_path before n ∷ []) ns
    (all-push before (node_path before n) h (no_zero-below before n.head n.bytes h sound.0.part)) sound.1

-- ---- the keys of a value that a JSON field takes

pub taken_tree : (ts : List Tree) (i : ℕ) (t : Tree) → trees_refusal (trees_from ts) ≡ None → slice_get ts i ≡ Some t
    → tree_refusal t ≡ None
taken_tree [] i t h at = absurd (none-some t at)
taken_tree (x ∷ xs) zero t h at = ap tree_refusal (sym (same_Some x t at)) ∙ or_first (tree_refusal x) _ h
taken_tree (x ∷ xs) (suc i) t h at = taken_tree xs i t (or_second (tree_refusal x) _ h) at

pub taken_member : (ms : List (List ℕ × Tree)) (i : ℕ) (key : List ℕ) (t : Tree)
    → members_refusal (members_from ms) ≡ None → slice_get ms i ≡ Some (key, t)
    → (has_no_zero key ≡ true) × (tree_refusal t ≡ None)
taken_member [] i key t h at = absurd (none-some (key, t) at)
taken_member (m ∷ ms) zero key t h at =
    let same = same_Some m (key, t) at in (
      ap has_no_zero (sym (ap (λ (p : List ℕ × Tree). p.0) same))
          ∙ unless_true (has_no_zero m.0) json_key (or_first (unless (has_no_zero m.0) json_key) _ h),
      ap tree_refusal (sym (ap (λ (p : List ℕ × Tree). p.1) same))
          ∙ or_first (tree_refusal m.1) _ (or_second (unless (has_no_zero m.0) json_key) _ h),
    )
taken_member (m ∷ ms) (suc i) key t h at =
    taken_member ms i key t (or_second (tree_refusal m.1) _ (or_second (unless (has_no_zero m.0) json_key) _ h)) at
