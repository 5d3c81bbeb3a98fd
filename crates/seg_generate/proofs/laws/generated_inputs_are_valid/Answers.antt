use Rattle.seg_generate.proofs.ValidInputs.{generated_valid}
use Rattle.seg_generate.proofs.laws.generated_inputs_are_valid.Goals as goal

pub returns : goal.returns
returns c = generated_valid
