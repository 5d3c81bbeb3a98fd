use Rattle.seg_model_cases.proofs.Json.{json_cases}
use Rattle.seg_model_cases.proofs.laws.cases_of_json.Goals as goal

pub returns : goal.returns
returns c = json_cases
