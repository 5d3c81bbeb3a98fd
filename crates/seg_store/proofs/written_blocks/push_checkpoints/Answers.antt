use Rattle.std.proofs.Common.{◌≡◌, ◌++◌, List, map, sym, ap, subst, ◌∙◌}
use Rattle.std.specs.List.{AllByRecursion}
use Rattle.seg_store.specs.declared.checkpoint.Checkpoint.{Checkpoint}
use Rattle.seg_store.specs.Checkpoints.{checkpoints}
use Rattle.seg_store.specs.StackedBlocks.{shifted}
use Rattle.seg_store.proofs.CheckpointLists.{IsBelow, all_below}
use Rattle.seg_store.proofs.written_blocks.push_checkpoints.Goals as goal

pub loop-checkpoint-init : goal.loop-checkpoint-init
loop-checkpoint-init c =
    let blocks = c.args.reader.now in
    let shift = shifted c.args.documents c.args.bytes in
    let is : c.into_iter-checkpoint-iterator.result ≡ checkpoints blocks = c.into_iter-checkpoint-iterator.ensures.into_iter_gives ∙ c.block_checkpoints-checkpoint-items.ensures in
    record {
      all = ap (λ (cs : List Checkpoint). c.args.out.now.items ++ map shift cs) is;
      fit = subst (λ (cs : List Checkpoint). AllByRecursion (IsBelow 4294967296 18446744073709551616) (map shift cs)) (sym is) (all_below c.args.documents c.args.bytes 4294967296 18446744073709551616 blocks c.requires.few c.requires.small);
    }
