use Rattle.seg_model_cases.proofs.Bytes.{byte_cases}
use Rattle.seg_model_cases.proofs.laws.cases_of_bytes.Goals as goal

pub returns : goal.returns
returns c = byte_cases
