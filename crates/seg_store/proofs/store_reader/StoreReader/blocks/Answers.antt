use Rattle.std.proofs.Common.{sym, ap, ◌∙◌, subst}
use Rattle.seg_store.specs.StackedBlocks.{HaveBlocks}
use Rattle.seg_store.specs.Store.{store_body, blocks_of}
use Rattle.seg_store.proofs.CheckpointLists.{have_blocks}
use Rattle.seg_store.proofs.store_reader.StoreReader.blocks.Goals as goal

pub returns : goal.returns
returns c =
    let bytes = c.self.inside.bytes in
    let body = sym (c.blocks_and_table.ensures.blocks ∙ ap store_body c.as_slice.ensures) in
    subst (λ bs. HaveBlocks bs c.blocks_and_table.result.0.now) c.self.view_is
    (subst (HaveBlocks (blocks_of bytes)) body (have_blocks bytes c.self.invariant))
