use Rattle.seg_model_cases.proofs.Stores.{store_cases}
use Rattle.seg_model_cases.proofs.laws.cases_of_stores.Goals as goal

pub returns : goal.returns
returns c = store_cases
