use Rattle.std.proofs.Common.{sym, ◌∙◌}
use Rattle.seg_column_format.proofs.OpenedColumns.{hold, hold_not}
use Rattle.seg_column_format.proofs.opened_columns.open_columns.Goals as goal

pub returns-in-Ok-true : goal.returns-in-Ok-true
returns-in-Ok-true c = (
  hold c.args.schema.now c.args.num_docs c.args.bytes c.in-Ok.columnar c.in-Ok.ensures.0 c.in-Ok.ensures.1
      (sym c.num_rows.ensures ∙ c.if-num_rows-num_docs.false) (sym c.in-Ok-true.field-0-test ∙ c.in-Ok-true.ensures),
  c.in-Ok.ensures.1,
)

pub returns-in-Ok-false : goal.returns-in-Ok-false
returns-in-Ok-false c =
    hold_not c.args.schema.now c.args.num_docs c.args.bytes c.in-Ok.columnar c.in-Ok.ensures.0 c.in-Ok.ensures.1
    (sym c.num_rows.ensures ∙ c.if-num_rows-num_docs.false) (sym c.in-Ok-false.field-0-test ∙ c.in-Ok-false.ensures)
