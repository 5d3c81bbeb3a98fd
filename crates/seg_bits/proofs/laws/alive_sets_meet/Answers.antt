use Rattle.seg_bits.proofs.SetIntersections.{alive_sets_meet}
use Rattle.seg_bits.proofs.laws.alive_sets_meet.Goals as goal

pub returns : goal.returns
returns c = alive_sets_meet
