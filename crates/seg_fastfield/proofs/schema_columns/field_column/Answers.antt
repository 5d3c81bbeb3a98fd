use Rattle.std.proofs.Common.{sym, ◌∙◌}
use Rattle.seg_fastfield.proofs.ColumnIds.{found_column}
use Rattle.seg_fastfield.proofs.schema_columns.field_column.Goals as goal

pub returns-clause-same : goal.returns-clause-same
returns-clause-same c =
    (found_column c.args.entry.now c.as_str.result.now c.in-Some.column_type c.of.result c.args.columns.now
    c.column.new.self c.in_ok-id.id c.requires c.if-not-entry.false (sym c.declared_type.ensures ∙ c.in-Some.is)
    c.as_str.ensures c.of.ensures c.in_ok-id.ensures.ok c.in_ok-id.ensures.place).0

pub returns-clause-id : goal.returns-clause-id
returns-clause-id c =
    (found_column c.args.entry.now c.as_str.result.now c.in-Some.column_type c.of.result c.args.columns.now
    c.column.new.self c.in_ok-id.id c.requires c.if-not-entry.false (sym c.declared_type.ensures ∙ c.in-Some.is)
    c.as_str.ensures c.of.ensures c.in_ok-id.ensures.ok c.in_ok-id.ensures.place).1
