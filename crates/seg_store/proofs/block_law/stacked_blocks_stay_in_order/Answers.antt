use Rattle.seg_store.proofs.LastDocuments.{all_are_stacked_last}
use Rattle.seg_store.proofs.block_law.stacked_blocks_stay_in_order.Goals as goal

pub returns : goal.returns
returns c = all_are_stacked_last
