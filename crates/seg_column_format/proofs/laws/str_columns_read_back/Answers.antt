use Rattle.seg_column_format.proofs.TermColumnRoundTrips.{is_str_column}
use Rattle.seg_column_format.proofs.laws.str_columns_read_back.Goals as goal

pub returns : goal.returns
returns c = λ ords terms some few values uses sorted utf8. is_str_column ords terms some few values uses sorted utf8
