use Rattle.seg_model_cases.proofs.Contents.{contents_cases}
use Rattle.seg_model_cases.proofs.laws.cases_of_contents.Goals as goal

pub returns : goal.returns
returns c = contents_cases
