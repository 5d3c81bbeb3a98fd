use Rattle.std.proofs.Common.{Some, refl, sym, ap, ◌∙◌}
use Rattle.seg_column_file.specs.ColumnFiles.{column_file_of}
use Rattle.seg_column_writer.specs.RecordedColumns.{recorded_columns}
use Rattle.seg_column_format.specs.ModelColumns.{columns_in}
use Rattle.seg_fastfield.specs.FastFieldWriters.{FastWriting, refusal_of}
use Rattle.seg_fastfield.proofs.DocumentSteps.{rows_within, told_columns, told_error}
use Rattle.seg_fastfield.proofs.writer.FastFieldsWriter.serialize.Goals as goal

pub serialize-requires : goal.serialize-requires
serialize-requires c =
    rows_within c.self.inside.schema c.self.inside.rows c.self.inside.columns c.self.invariant.1

pub returns-in-Ok-clause-columns : goal.returns-in-Ok-clause-columns
returns-in-Ok-clause-columns c =
    let view : FastWriting = record {
      schema = c.self.inside.schema;
      columns = c.self.inside.columns;
      rows =
          c.self.inside.rows;
    } in
    told_columns view c.args.self c.self.view_is (Some (columns_in (column_file_of c.in-Ok.bytes.items)))
    c.in-Ok.ensures.columns

pub returns-clause-err : goal.returns-clause-err
returns-clause-err c documents holds =
    let view : FastWriting = record {
      schema = c.self.inside.schema;
      columns = c.self.inside.columns;
      rows =
          c.self.inside.rows;
    } in
    let told = recorded_columns c.self.inside.rows c.self.inside.columns in
    c.refusal.ensures ∙ told_error told c.in-Err.e c.in-Err.ensures.err
    ∙ ap refusal_of (sym (told_columns view c.args.self c.self.view_is told refl documents holds))
