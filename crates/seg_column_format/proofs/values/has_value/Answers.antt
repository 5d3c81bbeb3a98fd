use Rattle.std.proofs.Common.{◌≡◌, ap, sym, ◌∙◌}
use Rattle.std.specs.List.{list_any}
use Rattle.seg_columns.specs.declared.dynamic_column.DynamicColumn.{DynamicColumn}
use Rattle.seg_column_format.specs.ModelColumns.{column_rows}
use Rattle.seg_model.specs.Columns.{is_filled}
use Rattle.seg_column_format.specs.SchemaColumns.{has_values}
use Rattle.seg_column_format.proofs.FilledColumns.{mapped_rows}
use Rattle.seg_column_format.proofs.values.has_value.Goals as goal

abbrev has_one : DynamicColumn → Rattle.std.proofs.Common.Bool
has_one column = list_any is_filled (column_rows column)

pub returns-in-I64 : goal.returns-in-I64
returns-in-I64 c = c.is_used.ensures ∙ (mapped_rows _ c.in-I64.values ∙ ap has_one (sym c.in-I64.is))

pub returns-in-U64 : goal.returns-in-U64
returns-in-U64 c = c.is_used-in-U64.ensures ∙ (mapped_rows _ c.in-U64.values ∙ ap has_one (sym c.in-U64.is))

pub returns-in-Bool : goal.returns-in-Bool
returns-in-Bool c = c.is_used-in-Bool.ensures ∙ (mapped_rows _ c.in-Bool.values ∙ ap has_one (sym c.in-Bool.is))

pub returns-in-IpAddr : goal.returns-in-IpAddr
returns-in-IpAddr c = c.is_used-in-IpAddr.ensures ∙ (mapped_rows _ c.in-IpAddr.values ∙ ap has_one (sym c.in-IpAddr.is))

pub returns-in-DateTime : goal.returns-in-DateTime
returns-in-DateTime c = c.is_used-in-DateTime.ensures ∙ (mapped_rows _ c.in-DateTime.values ∙ ap has_one (sym c.in-DateTime.is))

pub returns-in-Bytes : goal.returns-in-Bytes
returns-in-Bytes c = c.is_used-in-Bytes.ensures ∙ (ap (list_any has_values) c.ords.ensures ∙ (mapped_rows _ c.in-Bytes.terms.ords ∙ ap has_one (sym c.in-Bytes.is)))

pub returns-in-Str : goal.returns-in-Str
returns-in-Str c = c.is_used-in-Str.ensures ∙ (ap (list_any has_values) c.ords-in-Str.ensures ∙ (mapped_rows _ c.in-Str.texts.ords ∙ ap has_one (sym c.in-Str.is)))
