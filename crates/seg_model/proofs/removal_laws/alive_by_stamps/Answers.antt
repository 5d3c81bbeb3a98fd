use Rattle.seg_model.proofs.AliveByStamps.{alive_by_stamps}
use Rattle.seg_model.proofs.removal_laws.alive_by_stamps.Goals as goal

pub returns : goal.returns
returns c = alive_by_stamps
