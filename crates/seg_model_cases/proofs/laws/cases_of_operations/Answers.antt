use Rattle.seg_model_cases.proofs.Operations.{operation_cases}
use Rattle.seg_model_cases.proofs.laws.cases_of_operations.Goals as goal

pub returns : goal.returns
returns c = operation_cases
