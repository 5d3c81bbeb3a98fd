use Rattle.std.proofs.Common.{ℕ, ◌<◌, ◌^◌, length, subst}
use Rattle.std.specs.Prelude.{All}
use Rattle.seg_columns.specs.ValueImages.{unsigned}
use Rattle.seg_column_merge.proofs.FittingValues.{rows_fit, unsigned_tells}
use Rattle.seg_column_merge.proofs.kept_count.unsigned_fit.Goals as goal

pub returns : goal.returns
returns c =
    subst (All (All (λ (n : ℕ). n < 2 ^ 64))) c.as_bytes.ensures.rows
    (rows_fit 8 unsigned (λ (n : ℕ). n < 2 ^ 64) unsigned_tells (length c.args.column.now) c.as_bytes.result.now
    c.are_octets.ensures c.as_bytes.ensures.column)
