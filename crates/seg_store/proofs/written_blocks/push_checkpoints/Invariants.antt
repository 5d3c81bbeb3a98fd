use Rattle.std.proofs.Common.{◌≡◌, ◌<◌, ◌^◌, ◌++◌, map}
use Rattle.std.specs.List.{AllByRecursion}
use Rattle.seg_store.specs.declared.checkpoint.Checkpoint.{Checkpoint}
use Rattle.seg_store.specs.Checkpoints.{checkpoints}
use Rattle.seg_store.specs.StackedBlocks.{shifted}
use Rattle.seg_store.proofs.written_blocks.push_checkpoints.Given as goal

-- what is so far, with what is left, is all, and each of these fits
abbrev pub invariant-loop-checkpoint : goal.invariant-loop-checkpoint
invariant-loop-checkpoint l = record {
  all : l.out.items ++ map (shifted l.documents l.bytes) l.checkpoint-iterator ≡ l.fn.out.items ++ map (shifted l.documents l.bytes) (checkpoints l.reader);
  fit : AllByRecursion (λ (c : Checkpoint). (c.doc_end < 2 ^ 32) × (c.byte_end < 2 ^ 64)) (map (shifted l.documents l.bytes) l.checkpoint-iterator);
}
