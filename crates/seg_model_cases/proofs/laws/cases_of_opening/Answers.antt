use Rattle.seg_model_cases.proofs.Files.{opening_cases}
use Rattle.seg_model_cases.proofs.laws.cases_of_opening.Goals as goal

pub returns : goal.returns
returns c = opening_cases
