use Rattle.std.proofs.Common.{length, subst}
use Rattle.std.specs.Prelude.{All}
use Rattle.seg_columns.specs.Addresses.{address}
use Rattle.seg_column_merge_parts.specs.KeptColumns.{IsWhole}
use Rattle.seg_column_merge.proofs.FittingValues.{address_tells, rows_fit}
use Rattle.seg_column_merge.proofs.kept_count.addresses_fit.Goals as goal

pub returns : goal.returns
returns c =
    subst (All (All IsWhole)) c.as_bytes.ensures.rows
    (rows_fit 16 address IsWhole address_tells (length c.args.column.now) c.as_bytes.result.now c.are_octets.ensures
    c.as_bytes.ensures.column)
