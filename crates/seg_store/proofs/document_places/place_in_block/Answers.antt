use Rattle.std.proofs.Common.{◌*◌, ap, ◌∙◌, arith, length}
use Rattle.seg_common.specs.LittleEndian.{u64_at}
use Rattle.seg_store.specs.Block.{block_count}
use Rattle.seg_store.specs.Ends.{numbers_of, start_of}
use Rattle.seg_store.proofs.DocumentPlaces.{count_is, block_table_length, document_at}
use Rattle.seg_store.proofs.document_places.place_in_block.Goals as goal

pub document_start-requires : goal.document_start-requires
document_start-requires c = omega (arith, ap length c.end_table-ends.ensures, block_table_length c.args.block.now c.requires.block, count_is c.args.block.now, c.requires.within)

pub document_end-requires : goal.document_end-requires
document_end-requires c = omega (arith, ap length c.end_table-ends.ensures, block_table_length c.args.block.now c.requires.block, count_is c.args.block.now, c.requires.within)

pub returns : goal.returns
returns c =
    let start = c.document_start.ensures (block_count c.args.block.now) (omega (arith, count_is c.args.block.now, c.requires.within)) ∙ ap (λ l. start_of 0 (numbers_of (block_count c.args.block.now) l) c.args.index) c.end_table-ends.ensures in
    let end = c.document_end.ensures ∙ ap (λ l. u64_at l (8 * c.args.index)) c.end_table-ends.ensures in
    let d = document_at c.args.block.now c.args.index c.document_start.result c.document_end.result c.requires.block c.requires.within start end in
    record { order = d.from; within = d.within; is = d.is }
