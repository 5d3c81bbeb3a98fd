use Rattle.std.proofs.Common.{◌<◌, ◌*◌, ◌+◌, length, map, ap, ◌∙◌, arith}
use Rattle.seg_common.specs.LittleEndian.{u64_at}
use Rattle.seg_store.specs.Ends.{start_of}
use Rattle.seg_store.specs.Store.{store_count, checkpoints_of}
use Rattle.seg_store.proofs.DocumentPlaces.{block_number, table_length, block_at}
use Rattle.seg_store.proofs.document_places.block_place.Goals as goal

pub block_start-start-requires : goal.block_start-start-requires
block_start-start-requires c = omega (arith, ap length c.checkpoint_table-table.ensures, table_length c.args.bytes.now c.requires.store, block_number c.args.bytes.now, c.requires.number)

pub checkpoint_at-end-requires : goal.checkpoint_at-end-requires
checkpoint_at-end-requires c = omega (arith, ap length c.checkpoint_table-table.ensures, table_length c.args.bytes.now c.requires.store, block_number c.args.bytes.now, c.requires.number)

pub returns : goal.returns
returns c =
    let bytes = c.args.bytes.now in
    let within : c.args.number < store_count bytes = omega (arith, block_number bytes, c.requires.number) in
    let start = c.block_start-start.ensures (store_count bytes) (omega (arith, within)) ∙ ap (λ t. start_of 0 (map (λ c. c.1) (checkpoints_of (store_count bytes) t)) c.args.number) c.checkpoint_table-table.ensures in
    let end = c.checkpoint_at-end.ensures.byte_end ∙ ap (λ t. u64_at t (12 * c.args.number + 4)) c.checkpoint_table-table.ensures in
    let b = block_at bytes c.args.number c.block_start-start.result c.checkpoint_at-end.result.byte_end c.requires.store within start end in
    record { order = b.from; within = b.within; block = b.block; is = b.is }
