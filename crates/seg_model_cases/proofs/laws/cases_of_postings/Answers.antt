use Rattle.seg_model_cases.proofs.Postings.{postings_cases}
use Rattle.seg_model_cases.proofs.laws.cases_of_postings.Goals as goal

pub returns : goal.returns
returns c = postings_cases
