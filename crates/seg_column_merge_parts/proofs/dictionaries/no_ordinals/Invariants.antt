use Rattle.std.proofs.Common.{map, take}
use Rattle.seg_column_merge_parts.specs.TermHeads.{AreLong}
use Rattle.seg_column_merge_parts.proofs.dictionaries.no_ordinals.Given as goal

abbrev pub invariant-loop-column : goal.invariant-loop-column
invariant-loop-column l = AreLong (take l.column-index l.columns) (map (λ v. v.items) l.ordinals.items)
