use Rattle.seg_model_cases.proofs.Columns.{column_cases}
use Rattle.seg_model_cases.proofs.laws.cases_of_columns.Goals as goal

pub returns : goal.returns
returns c = column_cases
