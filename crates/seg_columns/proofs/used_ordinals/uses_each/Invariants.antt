use Rattle.std.proofs.Common.{◌≡◌, ◌<◌, ◌||◌, ℕ, [], false, drop, get_or, length}
use Rattle.std.specs.Prelude.{All, nat_eq}
use Rattle.std.specs.List.{list_any}
use Rattle.seg_columns.proofs.used_ordinals.uses_each.Given as goal

abbrev pub invariant-loop-doc : goal.invariant-loop-doc
invariant-loop-doc l = record {
  long : length l.used.items ≡ l.count;
  below : (i : ℕ) → i < l.doc → All (λ ord. ord < l.count) (get_or l.ords i []);
  marks : (ord : ℕ) → ord < l.count
      → (get_or l.used.items ord false || list_any (list_any (nat_eq ord)) (drop l.doc l.ords)) ≡ list_any
      (list_any (nat_eq ord)) l.ords;
}
