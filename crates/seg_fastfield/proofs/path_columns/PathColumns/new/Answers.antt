use Rattle.seg_fastfield.proofs.PathNumbers.{none_known}
use Rattle.seg_fastfield.proofs.path_columns.PathColumns.new.Goals as goal

pub returns : goal.returns
returns c columns = none_known _ c.new-2.ensures.items columns
