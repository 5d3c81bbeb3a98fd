use Rattle.std.proofs.Common.{subst}
use Rattle.std.specs.Prelude.{All}
use Rattle.seg_common.specs.declared.column_type.ColumnType.{ColumnType}
use Rattle.seg_column_merge.specs.MergedBytes.{HasType, HoldsAll}
use Rattle.seg_column_merge_parts.specs.declared.tables.TableRow.{TableRow}
use Rattle.seg_column_merge.proofs.GroupSteps.{number_type, of_type, suits}
use Rattle.seg_column_merge.proofs.group_column.put_column.Goals as goal

pub put_terms-requires-clause-types : goal.put_terms-requires-clause-types
put_terms-requires-clause-types c =
    of_type c.args.merge.now c.args.rows.now c.requires.group c.requires.some c.args.column_type c.requires.decided
    (λ vs held. subst (λ (t : ColumnType). HoldsAll t vs) c.in-Str.is held)

pub put_terms-requires-in-Bytes-clause-types : goal.put_terms-requires-in-Bytes-clause-types
put_terms-requires-in-Bytes-clause-types c =
    of_type c.args.merge.now c.args.rows.now c.requires.group c.requires.some c.args.column_type c.requires.decided
    (λ vs held. subst (λ (t : ColumnType). HoldsAll t vs) c.in-Bytes.is held)

pub put_addresses-requires-clause-types : goal.put_addresses-requires-clause-types
put_addresses-requires-clause-types c =
    subst (λ (t : ColumnType). All (λ (r : TableRow). HasType t r.column) c.args.rows.now) c.in-IpAddr.is
    (of_type c.args.merge.now c.args.rows.now c.requires.group c.requires.some c.args.column_type c.requires.decided
    (λ vs held. subst (λ (t : ColumnType). HoldsAll t vs) c.in-IpAddr.is held))

pub put_values-requires-clause-number : goal.put_values-requires-clause-number
put_values-requires-clause-number c =
    number_type c.args.column_type c.in_default.not-Str c.in_default.not-Bytes c.in_default.not-IpAddr

pub put_values-requires-clause-suits : goal.put_values-requires-clause-suits
put_values-requires-clause-suits c =
    suits c.args.merge.now c.args.rows.now c.requires.group c.requires.some c.args.column_type c.requires.decided
