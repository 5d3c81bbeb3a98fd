use Rattle.seg_store.proofs.LastDocuments.{are_taken_last}
use Rattle.seg_store.proofs.block_law.documents_stay_in_order.Goals as goal

pub returns : goal.returns
returns c = are_taken_last
