use Rattle.std.proofs.Common.{◌≡◌, ◌++◌, map, drop}
use Rattle.std.specs.Prelude.{All, IsUtf8}
use Rattle.seg_column_merge_parts.specs.Tables.{all_rows, file_rows, row_of}
use Rattle.seg_column_merge_parts.proofs.tables.table_rows.Given as goal

abbrev pub invariant-loop-file : goal.invariant-loop-file
invariant-loop-file l = record {
  rows : map row_of l.table.items ++ file_rows l.file (drop l.file l.columnars) ≡ all_rows l.required l.columnars;
  utf8 : All (λ r. IsUtf8 r.path.now) l.table.items;
}
