use Rattle.std.proofs.Common.{◌≡◌, ℕ, List, ap, ◌∙◌, arith}
use Rattle.seg_common.specs.LittleEndian.{u32_at}
use Rattle.seg_store.specs.Block.{block_count}
use Rattle.seg_store.proofs.DocumentPlaces.{block_facts}
use Rattle.seg_store.proofs.document_places.end_table.Goals as goal

pub overflow_sub-block : goal.overflow_sub-block
overflow_sub-block c = omega (arith, (block_facts c.args.block.now c.requires).room)

pub u32_at-count-requires : goal.u32_at-count-requires
u32_at-count-requires c = omega (arith, (block_facts c.args.block.now c.requires).room, c.split_at.ensures.back_len)

pub overflow_sub-rest : goal.overflow_sub-rest
overflow_sub-rest c =
    let count : c.u32_at-count.result ≡ block_count c.args.block.now = c.u32_at-count.ensures ∙ ap (λ (l : List ℕ). u32_at l 0) c.split_at.ensures.back in
    omega (arith, (block_facts c.args.block.now c.requires).room, c.split_at.ensures.front_len, count)
