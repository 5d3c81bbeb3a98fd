use Rattle.seg_model_cases.proofs.Refusals.{refusal_cases}
use Rattle.seg_model_cases.proofs.laws.cases_of_refusals.Goals as goal

pub returns : goal.returns
returns c = refusal_cases
