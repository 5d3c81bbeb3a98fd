use Rattle.std.proofs.Common.{map}
use Rattle.std.specs.Vec.Iter.{into_iter_items}
use Rattle.seg_values.specs.ValueTrees.{entry_pair, pair_of}
use Rattle.seg_values.proofs.LastValues.{LeavesLast}
use Rattle.seg_values.proofs.document.TantivyDocument.into_hash_map.Given as goal

abbrev pub invariant-loop-pair : goal.invariant-loop-pair
invariant-loop-pair l = LeavesLast (map entry_pair l.values.entries) (map pair_of (into_iter_items l.pair-iterator)) l.fn.self
