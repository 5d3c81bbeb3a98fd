use Rattle.std.proofs.Common.{◌≡◌, ◌<◌, ◌||◌, ℕ, false, drop, get_or, length}
use Rattle.std.specs.Prelude.{nat_eq}
use Rattle.std.specs.List.{list_any}
use Rattle.seg_column_file.specs.KeptRows.{kept_values}
use Rattle.seg_column_merge_parts.proofs.used_ordinals.used_ordinals.Given as goal

abbrev pub invariant-loop-row : goal.invariant-loop-row
invariant-loop-row l = record {
  long : length l.used.items ≡ l.count;
  marks : (ord : ℕ) → ord < l.count
      → (get_or l.used.items ord false || list_any (nat_eq ord) (kept_values (drop l.row l.kept) (drop l.row l.ords)))
      ≡ list_any (nat_eq ord) (kept_values l.kept l.ords);
}
