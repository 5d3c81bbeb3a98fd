use Rattle.std.proofs.Common.{sym, arith}
use Rattle.seg_column_file.specs.ColumnFiles.{table_of}
use Rattle.seg_column_file.proofs.TableEntries.{column_start-first, place_of-first}
use Rattle.seg_column_file.proofs.column_iter.ColumnIter.new.Goals as goal

pub invariant_of-result : goal.invariant_of-result
invariant_of-result c = (
  c.requires.file,
  c.requires.footer,
  omega arith,
  sym (place_of-first (table_of c.args.bytes.now)),
  sym (column_start-first (table_of c.args.bytes.now)),
)
