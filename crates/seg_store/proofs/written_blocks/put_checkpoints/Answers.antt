use Rattle.std.proofs.Common.{◌∙◌, arith}
use Rattle.seg_store.proofs.Stores.{one_checkpoint}
use Rattle.seg_store.proofs.written_blocks.put_checkpoints.Goals as goal

pub loop-checkpoint-preserved : goal.loop-checkpoint-preserved
loop-checkpoint-preserved c =
    one_checkpoint c.loop-checkpoint.out.items c.put_checkpoint.new.out.items c.args.checkpoints.now c.loop-checkpoint.checkpoint-index (record { doc_end = 0; byte_end = 0 }) (omega arith) c.in_ok-put_checkpoint.ensures
    ∙ c.loop-checkpoint.invariant
