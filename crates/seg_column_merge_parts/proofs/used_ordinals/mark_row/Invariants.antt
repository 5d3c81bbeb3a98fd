use Rattle.std.proofs.Common.{◌≡◌, ◌<◌, ◌||◌, ℕ, false, get_or, length}
use Rattle.std.specs.Prelude.{All, nat_eq}
use Rattle.std.specs.List.{list_any}
use Rattle.seg_column_merge_parts.proofs.used_ordinals.mark_row.Given as goal

abbrev pub invariant-loop-ord : goal.invariant-loop-ord
invariant-loop-ord l = record {
  can : (goal.iterator-loop-ord).can_next l.ord-iterator;
  finite : (goal.iterator-loop-ord).is_finite l.ord-iterator;
  long : length l.used.items ≡ length l.fn.used.items;
  below : All (λ ord. ord < length l.fn.used.items) l.ord-iterator;
  marks : (ord : ℕ) → ord < length l.fn.used.items
      → (get_or l.used.items ord false || list_any (nat_eq ord) l.ord-iterator)
      ≡ (get_or l.fn.used.items ord false || list_any (nat_eq ord) l.fn.ords);
}
