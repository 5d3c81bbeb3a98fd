use Rattle.seg_model_cases.proofs.Dates.{date_cases}
use Rattle.seg_model_cases.proofs.laws.cases_of_dates.Goals as goal

pub returns : goal.returns
returns c = date_cases
