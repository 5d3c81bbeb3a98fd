use Rattle.seg_model.proofs.LiveParts.{reading_of_full}
use Rattle.seg_model.proofs.laws.full_readings_have_the_reading.Goals as goal

pub returns : goal.returns
returns c = reading_of_full
