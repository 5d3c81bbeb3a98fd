use Rattle.std.proofs.Common.{◌≡◌, ◌<◌, ◌+◌, ◌^◌, length, drop, option_map, IfSome}
use Rattle.std.specs.List.{AllByRecursion}
use Rattle.seg_store.specs.WriterBlocks.{taken_count}
use Rattle.seg_merger.specs.JoinedStore.{IsStored, joined_documents, with_segments}
use Rattle.seg_merger.proofs.joined_store.join_stores.Given as goal

abbrev pub invariant-loop-part : goal.invariant-loop-part
invariant-loop-part l = record {
  added : option_map (with_segments (drop l.part-index l.parts)) l.writer ≡ option_map (with_segments l.parts) l.initial.writer;
  room : IfSome l.writer (λ w. taken_count w + length (joined_documents (drop l.part-index l.parts)) < 2 ^ 31);
  stored : AllByRecursion IsStored (drop l.part-index l.parts) → AllByRecursion IsStored l.parts;
}
