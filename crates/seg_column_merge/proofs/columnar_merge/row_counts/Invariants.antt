use Rattle.std.proofs.Common.{◌≡◌, map, take, drop}
use Rattle.std.specs.List.{AllByRecursion}
use Rattle.seg_column_file.specs.ColumnFiles.{ColumnFile, IsOfFile}
use Rattle.seg_column_merge.proofs.columnar_merge.row_counts.Given as goal

abbrev pub invariant-loop-columnar : goal.invariant-loop-columnar
invariant-loop-columnar l = record {
  counts : l.counts.items ≡ map (λ (f : ColumnFile). f.rows) (take l.columnar-index l.columnars);
  read : AllByRecursion IsOfFile (drop l.columnar-index l.columnars) → AllByRecursion IsOfFile l.columnars;
}
