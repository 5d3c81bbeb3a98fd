use Rattle.std.proofs.Common.{sym, ◌∙◌}
use Rattle.std.specs.Prelude.{◌&&◌}
use Rattle.seg_model.specs.Columns.{declared_type}
use Rattle.seg_column_format.specs.SchemaColumns.{is_type}
use Rattle.seg_column_format.proofs.NamedFields.{alone, asked_alone, declares_alone, no_field}
use Rattle.seg_column_format.proofs.declared_columns.declaring_field.Goals as goal

pub returns-in_default : goal.returns-in_default
returns-in_default c = no_field c.args.path.now (λ e. e.fast && is_type c.args.column_type (declared_type e.kind)) c.args.schema.now
    c.in_default.ensures.err.1

pub returns-then-not-is_of_type : goal.returns-then-not-is_of_type
returns-then-not-is_of_type c =
    sym (asked_alone c.args.path.now (λ e. e.fast && is_type c.args.column_type (declared_type e.kind)) c.args.schema.now
    c.in-Ok.field c.get_field_entry.result.now c.get_field_entry.ensures
    (alone c.args.path.now c.args.schema.now c.fields_are_valid.ensures c.in-Ok.field c.in-Ok.ensures.ok))
    ∙ (sym c.is_of_type.ensures ∙ c.if-not-is_of_type.true)

pub returns : goal.returns
returns c =
    declares_alone c.args.schema.now c.args.path.now c.args.column_type c.in-Ok.field c.field_id.result c.get_field_entry.result.now
    c.field_id.ensures c.get_field_entry.ensures (sym c.is_of_type.ensures ∙ c.if-not-is_of_type.false)
    (alone c.args.path.now c.args.schema.now c.fields_are_valid.ensures c.in-Ok.field c.in-Ok.ensures.ok)
