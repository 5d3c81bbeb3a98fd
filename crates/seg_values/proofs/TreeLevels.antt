-- A value of an array or of an object has fewer levels: the measure of a recursion that goes down by `get`.
use Rattle.std.proofs.Common.{◌≡◌, ℕ, zero, suc, ◌<◌, ◌≤◌, List, [], ◌∷◌, Some, sym, ap, arith}
use Rattle.std.specs.Prelude.{is_some}
use mathlib.Core.Bool.{true≢false}
use Rattle.std.specs.List.{slice_get}
use Rattle.std.proofs.lemmas.Option.{same_Some}
use Rattle.seg_values.specs.Tree.{Tree, array, object, levels, most_levels, most_member_levels, trees_from, members_from}

most_levels-at : (ts : List Tree) (i : ℕ) (t : Tree) → slice_get ts i ≡ Some t → levels t ≤ most_levels (trees_from ts)
most_levels-at [] i t e = absurd (true≢false (sym (ap is_some e)))
most_levels-at (x ∷ ts) zero t e = let same : levels x ≡ levels t = ap levels (same_Some x t e) in omega arith
most_levels-at (x ∷ ts) (suc i) t e = omega (arith, most_levels-at ts i t e)

most_member_levels-at : (ms : List (List ℕ × Tree)) (i : ℕ) (m : List ℕ × Tree) → slice_get ms i ≡ Some m → levels m.1 ≤ most_member_levels (members_from ms)
most_member_levels-at [] i m e = absurd (true≢false (sym (ap is_some e)))
most_member_levels-at (x ∷ ms) zero m e = let same : levels x.1 ≡ levels m.1 = ap (λ (y : List ℕ × Tree). levels y.1) (same_Some x m e) in omega arith
most_member_levels-at (x ∷ ms) (suc i) m e = omega (arith, most_member_levels-at ms i m e)

pub levels-at : (ts : List Tree) (i : ℕ) (t : Tree) → slice_get ts i ≡ Some t → levels t < levels (array (trees_from ts))
levels-at ts i t e = omega (arith, most_levels-at ts i t e)

pub member_levels-at : (ms : List (List ℕ × Tree)) (i : ℕ) (m : List ℕ × Tree) → slice_get ms i ≡ Some m → levels m.1 < levels (object (members_from ms))
member_levels-at ms i m e = omega (arith, most_member_levels-at ms i m e)
