use Rattle.std.proofs.Common.{◌≡◌, ◌+◌, ◌^◌, ◌<◌, ◌++◌, drop}
use Rattle.std.specs.List.{AllByRecursion}
use Rattle.seg_merger.specs.JoinedTerms.{FieldsAreOpen}
use Rattle.seg_open.specs.OpenSegment.{IsMarked, kept_count}
use Rattle.seg_merger.specs.NewIds.{numbered_from}
use Rattle.seg_merger.proofs.numbered_part.number_parts.Given as goal

-- what is done, with what is left, is all
abbrev pub invariant-loop-part : goal.invariant-loop-part
invariant-loop-part l = record {
  numbered : l.numbered.items ++ numbered_from l.first (drop l.part-index l.parts) ≡ numbered_from 0 l.parts;
  room : l.first + kept_count (drop l.part-index l.parts) < 2 ^ 31;
  marked : AllByRecursion IsMarked (drop l.part-index l.parts) → AllByRecursion IsMarked l.parts;
  fields : AllByRecursion FieldsAreOpen (drop l.part-index l.parts) → AllByRecursion FieldsAreOpen l.parts;
}
