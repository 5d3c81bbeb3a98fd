use Rattle.seg_model_cases.proofs.ColumnFiles.{column_file_cases}
use Rattle.seg_model_cases.proofs.laws.cases_of_column_files.Goals as goal

pub returns : goal.returns
returns c = column_file_cases
