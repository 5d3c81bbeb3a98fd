use Rattle.seg_model.proofs.BatchCuts.{batches_play_no_part}
use Rattle.seg_model.proofs.laws.batches_play_no_part.Goals as goal

pub returns : goal.returns
returns c = batches_play_no_part
