use Rattle.seg_column_format.proofs.TermColumnRoundTrips.{is_bytes_column, term_column_read}
use Rattle.seg_column_format.proofs.laws.bytes_columns_read_back.Goals as goal

pub returns-clause-column : goal.returns-clause-column
returns-clause-column c = λ ords terms some few values uses sorted.
    is_bytes_column ords terms some few values uses sorted

pub returns-clause-read : goal.returns-clause-read
returns-clause-read c = λ ords terms some few values uses. term_column_read ords terms some few values uses
