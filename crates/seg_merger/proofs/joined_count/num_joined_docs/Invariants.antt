use Rattle.std.proofs.Common.{◌≡◌, ◌<◌, ◌+◌, ◌^◌, drop}
use Rattle.std.specs.List.{AllByRecursion}
use Rattle.seg_open.specs.OpenSegment.{IsMarked, kept_count}
use Rattle.seg_merger.proofs.KeptCounts.{HasShape}
use Rattle.seg_merger.proofs.joined_count.num_joined_docs.Given as goal

abbrev pub invariant-loop-part : goal.invariant-loop-part
invariant-loop-part l = record {
  few : l.count < 2 ^ 31;
  counted : l.count + kept_count (drop l.part-index l.parts) ≡ kept_count l.parts;
  marked : AllByRecursion IsMarked (drop l.part-index l.parts) → AllByRecursion IsMarked l.parts;
  shape : AllByRecursion HasShape (drop l.part-index l.parts) → AllByRecursion HasShape l.parts;
}
