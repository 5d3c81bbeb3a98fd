use Rattle.seg_model.proofs.JoinShape.{joins_have_full_shape}
use Rattle.seg_model.proofs.laws.joins_have_full_shape.Goals as goal

pub returns : goal.returns
returns c = joins_have_full_shape
