use Rattle.std.proofs.Common.{◌≡◌, ◌++◌, ap, sym, subst, ◌∙◌}
use Rattle.std.specs.Prelude.{OnOk}
use Rattle.seg_column_file.specs.ColumnFiles.{ColumnFile}
use Rattle.seg_column_format.specs.ModelColumns.{columns_in}
use Rattle.seg_text.specs.ColumnText.{columns_text}
use Rattle.seg_open.specs.OpenSegment.{contents_of}
use Rattle.seg_tool.specs.Printing.{read_segment, read_segment_text}
use Rattle.seg_tool.specs.declared.words.Detail.{Detail}
use Rattle.seg_tool.proofs.Printed.{full_read}
use Rattle.seg_tool.proofs.segment_text.push_segment.Goals as goal

pub returns-in_ok-push_columns-in-Full : goal.returns-in_ok-push_columns-in-Full
returns-in_ok-push_columns-in-Full c =
    let reader = c.args.reader.now in
    subst (λ (d : Detail). OnOk c.push_all_norms.result (c.push_all_norms.new.out.items
    ≡ c.args.out.now.items ++ read_segment_text c.args.label.now d reader)) (sym c.in-Full.is)
    (full_read c.push_all_norms.result reader.schema (read_segment c.args.label.now reader) (contents_of reader).columns
    (contents_of reader).norms c.args.out.now.items c.push_contents-in-Full.new.out.items c.push_columns.new.out.items
    c.push_all_norms.new.out.items c.in_ok-push_contents-in-Full.ensures
    (c.in_ok-push_columns-in-Full.ensures ∙ ap (λ (file : ColumnFile). c.push_contents-in-Full.new.out.items
    ++ columns_text (columns_in file)) c.columns.ensures) c.push_all_norms.ensures)
