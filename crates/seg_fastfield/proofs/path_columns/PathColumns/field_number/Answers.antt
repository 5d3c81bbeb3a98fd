use Rattle.seg_fastfield.proofs.PathNumbers.{no_more}
use Rattle.seg_fastfield.proofs.path_columns.PathColumns.field_number.Goals as goal

pub returns-then-is_some-clause-more : goal.returns-then-is_some-clause-more
returns-then-is_some-clause-more c = no_more c.args.self.now
