use Rattle.std.proofs.Common.{[], get_or, sym, subst}
use Rattle.seg_column_merge.specs.MergedBytes.{RowFits}
use Rattle.seg_column_merge.proofs.kept_count.with_row.Goals as goal

pub returns-in-Some : goal.returns-in-Some
returns-in-Some c =
    subst (RowFits c.args._kept.now) (sym c.in-Some.is)
    (c.with_values.ensures (get_or c.args._kept.now c.in-Some.column.file []))
