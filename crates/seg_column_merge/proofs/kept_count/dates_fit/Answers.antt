use Rattle.std.proofs.Common.{length, subst}
use Rattle.std.specs.Prelude.{All, FitsSigned}
use Rattle.std.specs.Int.{w64}
use Rattle.seg_columns.specs.ValueImages.{signed}
use Rattle.seg_column_merge.proofs.FittingValues.{rows_fit, signed_tells}
use Rattle.seg_column_merge.proofs.kept_count.dates_fit.Goals as goal

pub returns : goal.returns
returns c =
    subst (All (All (FitsSigned w64))) c.as_bytes.ensures.rows
    (rows_fit 8 signed (FitsSigned w64) signed_tells (length c.args.column.now) c.as_bytes.result.now c.are_octets.ensures
    c.as_bytes.ensures.column)
