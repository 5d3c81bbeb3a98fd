use Rattle.seg_model.proofs.ReadingShape.{readings_have_full_shape}
use Rattle.seg_model.proofs.laws.readings_have_full_shape.Goals as goal

pub returns : goal.returns
returns c = readings_have_full_shape
