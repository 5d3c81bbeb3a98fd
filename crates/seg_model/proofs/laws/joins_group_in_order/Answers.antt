use Rattle.seg_model.proofs.GroupedParts.{joins_group_in_order}
use Rattle.seg_model.proofs.laws.joins_group_in_order.Goals as goal

pub returns : goal.returns
returns c = joins_group_in_order
