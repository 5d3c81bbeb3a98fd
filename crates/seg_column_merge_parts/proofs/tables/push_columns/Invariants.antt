use Rattle.std.proofs.Common.{◌≡◌, ◌++◌, map}
use Rattle.std.specs.Prelude.{All, IsUtf8}
use Rattle.seg_column_merge_parts.specs.Tables.{file_row, row_of}
use Rattle.seg_column_merge_parts.proofs.tables.push_columns.Given as goal

abbrev pub invariant-loop-path : goal.invariant-loop-path
invariant-loop-path l = record {
  can : (goal.iterator-loop-path).can_next l.path-iterator;
  finite : (goal.iterator-loop-path).is_finite l.path-iterator;
  rows : map row_of l.table.items ++ map (file_row l.file) l.path-iterator
      ≡ map row_of l.fn.table.items ++ map (file_row l.file) l.columnar.columns;
  utf8 : All (λ r. IsUtf8 r.path.now) l.table.items;
}
