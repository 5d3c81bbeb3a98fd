use Rattle.std.proofs.Common.{◌++◌, List, ℕ, ap, ◌∙◌}
use Rattle.seg_column_format.specs.ModelColumns.{column_rows}
use Rattle.seg_text.specs.ColumnText.{rows_text, type_text}
use Rattle.seg_text.proofs.PrintedRows.{line_printed}
use Rattle.seg_text.proofs.column_line.push_column.Goals as goal

pub returns : goal.returns
returns c =
    let column = c.args.handle.now.column in
    line_printed c.args.path.now _ (column_rows column) c.args.out.now.items c.extend_from_slice.new.self.items
    c.push_quoted.new.out.items c.push.new.self.items c.extend_from_slice-2.new.self.items
    c.push_values.new.out.items c.push-2.new.self.items c.in_ok-extend_from_slice.ensures.items
    c.in_ok-push_quoted.ensures c.in_ok-push.ensures.items
    (c.in_ok-extend_from_slice-2.ensures.items
    ∙ ap (λ (l : List ℕ). c.push.new.self.items ++ l)
    (c.as_bytes.ensures.value ∙ c.type_name.ensures ∙ ap type_text c.column_type.ensures))
    (c.in_ok-push_values.ensures
    ∙ ap (λ x. c.extend_from_slice-2.new.self.items ++ rows_text 0 (column_rows x)) c.open.ensures)
    c.in_ok-push-2.ensures.items
