use Rattle.seg_fastfield.specs.FastFieldWriters.{FastWriting}
use Rattle.seg_fastfield.proofs.ValueCounts.{usage_told}
use Rattle.seg_fastfield.proofs.writer.FastFieldsWriter.mem_usage.Goals as goal

pub returns-clause-documents : goal.returns-clause-documents
returns-clause-documents c =
    let view : FastWriting = record {
      schema = c.self.inside.schema;
      columns = c.self.inside.columns;
      rows = c.self.inside.rows;
    } in
    usage_told view c.args.self.now c.self.view_is c.mem_usage.result c.mem_usage.ensures
