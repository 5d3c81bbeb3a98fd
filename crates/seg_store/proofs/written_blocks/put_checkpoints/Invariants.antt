use Rattle.std.proofs.Common.{◌≡◌, ◌++◌, drop}
use Rattle.std.specs.List.{flat_map}
use Rattle.seg_store.specs.WriterBuffers.{checkpoint_form}
use Rattle.seg_store.proofs.written_blocks.put_checkpoints.Given as goal

-- what is so far, with what is left, is all
abbrev pub invariant-loop-checkpoint : goal.invariant-loop-checkpoint
invariant-loop-checkpoint l = l.out.items ++ flat_map checkpoint_form (drop l.checkpoint-index l.checkpoints) ≡ l.fn.out.items ++ flat_map checkpoint_form l.checkpoints
