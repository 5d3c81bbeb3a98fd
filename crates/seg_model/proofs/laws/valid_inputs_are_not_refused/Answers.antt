use Rattle.seg_model.proofs.Refusals.{valid_inputs_are_not_refused}
use Rattle.seg_model.proofs.laws.valid_inputs_are_not_refused.Goals as goal

pub returns : goal.returns
returns c = valid_inputs_are_not_refused
