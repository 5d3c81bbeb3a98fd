use Rattle.std.proofs.Common.{◌≡◌, ℕ, List, ap, ◌∙◌, arith}
use Rattle.seg_common.specs.LittleEndian.{u32_at}
use Rattle.seg_store.specs.Store.{store_count}
use Rattle.seg_store.proofs.DocumentPlaces.{store_facts}
use Rattle.seg_store.proofs.document_places.blocks_and_table.Goals as goal

pub overflow_sub-bytes : goal.overflow_sub-bytes
overflow_sub-bytes c = omega (arith, (store_facts c.args.bytes.now c.requires).room)

pub u32_at-count-requires : goal.u32_at-count-requires
u32_at-count-requires c = omega (arith, (store_facts c.args.bytes.now c.requires).room, c.split_at.ensures.back_len)

pub overflow_sub-rest : goal.overflow_sub-rest
overflow_sub-rest c =
    let count : c.u32_at-count.result ≡ store_count c.args.bytes.now = c.u32_at-count.ensures ∙ ap (λ (l : List ℕ). u32_at l 0) c.split_at.ensures.back in
    omega (arith, (store_facts c.args.bytes.now c.requires).room, c.split_at.ensures.front_len, count)
