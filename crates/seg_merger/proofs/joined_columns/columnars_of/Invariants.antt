use Rattle.std.proofs.Common.{◌≡◌, map, take, drop}
use Rattle.std.specs.List.{AllByRecursion}
use Rattle.seg_open.specs.OpenSegment.{OpenSegment}
use Rattle.seg_merger.specs.JoinedColumns.{HasOwnColumns}
use Rattle.seg_merger.proofs.joined_columns.columnars_of.Given as goal

abbrev pub invariant-loop-part : goal.invariant-loop-part
invariant-loop-part l = record {
  are : l.columnars.items ≡ map (λ (p : OpenSegment). p.columns) (take l.part-index l.parts);
  own : AllByRecursion HasOwnColumns (drop l.part-index l.parts) → AllByRecursion HasOwnColumns l.parts;
}
