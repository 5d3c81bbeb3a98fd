use Rattle.std.proofs.Common.{arith}
use Rattle.seg_store.proofs.CheckpointLists.{blocks_few, blocks_size}
use Rattle.seg_store.proofs.store_reader.StoreReader.document_bytes.Goals as goal

pub overflow_mul-counts : goal.overflow_mul-counts
overflow_mul-counts c = omega (arith, c.num_docs.type_inv, c.num_docs.ensures.counted, c.block_count-counts.ensures, blocks_few c.args.self.now c.blocks-all.result.now c.blocks-all.ensures)

pub overflow_sub-result : goal.overflow_sub-result
overflow_sub-result c = omega (arith, blocks_size c.args.self.now c.blocks-all.result.now c.blocks-all.ensures, c.num_docs.ensures.counted)

pub overflow_sub-result-2 : goal.overflow_sub-result-2
overflow_sub-result-2 c = omega (arith, blocks_size c.args.self.now c.blocks-all.result.now c.blocks-all.ensures, c.num_docs.ensures.counted, c.block_count-counts.ensures)

pub returns : goal.returns
returns c = omega (arith, blocks_size c.args.self.now c.blocks-all.result.now c.blocks-all.ensures, c.num_docs.ensures.counted, c.block_count-counts.ensures)
