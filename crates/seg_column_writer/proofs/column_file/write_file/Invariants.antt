use Rattle.std.proofs.Common.{take}
use Rattle.seg_column_writer.specs.FiledColumns.{AreFiled}
use Rattle.seg_column_writer.proofs.column_file.write_file.Given as goal

abbrev pub invariant-loop-column : goal.invariant-loop-column
invariant-loop-column l = record {
  filed : AreFiled l.num_rows l.names l.columns (take l.column-index l.typed) l.out.items l.entries.items;
}
