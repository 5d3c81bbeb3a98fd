use Rattle.std.proofs.Common.{sym, ◌∙◌}
use Rattle.seg_column_format.specs.SchemaColumns.{is_fast_json}
use Rattle.seg_column_format.proofs.NamedFields.{alone, asked_alone, no_field}
use Rattle.seg_column_format.proofs.json_fields.is_named.Goals as goal

pub returns-in_default : goal.returns-in_default
returns-in_default c = sym (no_field c.args.name.now is_fast_json c.args.schema.now c.in_default.ensures.err.1)

pub returns : goal.returns
returns c =
    c.is_fast_json.ensures
    ∙ asked_alone c.args.name.now is_fast_json c.args.schema.now c.in-Ok.field c.get_field_entry.result.now c.get_field_entry.ensures
    (alone c.args.name.now c.args.schema.now c.fields_are_valid.ensures c.in-Ok.field c.in-Ok.ensures.ok)
