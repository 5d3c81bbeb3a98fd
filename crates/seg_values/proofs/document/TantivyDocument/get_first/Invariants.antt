use Rattle.std.proofs.Common.{◌≡◌, map, drop, nat_eq}
use Rattle.std.specs.Map.{lookup}
use Rattle.seg_values.specs.ValueTrees.{pair_of}
use Rattle.seg_values.proofs.document.TantivyDocument.get_first.Given as goal

-- what is found is found from here on
abbrev pub invariant-loop-pair : goal.invariant-loop-pair
invariant-loop-pair l =
    (map pair_of l.pair-items ≡ l.self) × (lookup (nat_eq l.field) (map pair_of (drop l.pair-index l.pair-items)) ≡ lookup (nat_eq l.field) l.self)
