use Rattle.seg_column_format.proofs.FileRoundTrips.{file_read, is_file}
use Rattle.seg_column_format.proofs.laws.files_read_back.Goals as goal

pub returns-clause-file : goal.returns-clause-file
returns-clause-file c = λ rows columns are few short. is_file rows columns are few short

pub returns-clause-read : goal.returns-clause-read
returns-clause-read c = λ rows columns are few short. file_read rows columns are few short
