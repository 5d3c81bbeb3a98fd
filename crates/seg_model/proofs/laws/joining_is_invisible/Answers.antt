use Rattle.seg_model.proofs.JoinedReadings.{joined_reading}
use Rattle.seg_model.proofs.laws.joining_is_invisible.Goals as goal

pub returns : goal.returns
returns c = joined_reading
