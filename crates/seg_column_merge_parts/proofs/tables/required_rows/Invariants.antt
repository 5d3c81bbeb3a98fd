use Rattle.std.proofs.Common.{◌≡◌, map, take}
use Rattle.std.specs.Prelude.{All, IsUtf8}
use Rattle.seg_column_merge_parts.specs.Tables.{required_row, row_of}
use Rattle.seg_column_merge_parts.proofs.tables.required_rows.Given as goal

abbrev pub invariant-loop-path : goal.invariant-loop-path
invariant-loop-path l = record {
  rows : map row_of l.table.items ≡ map required_row (take l.path-index l.required);
  utf8 : All (λ r. IsUtf8 r.path.now) l.table.items;
}
