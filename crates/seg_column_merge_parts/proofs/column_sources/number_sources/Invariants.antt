use Rattle.std.proofs.Common.{◌≡◌, drop, length, replicate}
use Rattle.seg_column_merge_parts.specs.ColumnSources.{with_rows}
use Rattle.seg_column_merge_parts.specs.declared.source.Source.TheVariants.{Nothing}
use Rattle.seg_column_merge_parts.proofs.column_sources.number_sources.Given as goal

abbrev pub invariant-loop-row : goal.invariant-loop-row
invariant-loop-row l = record {
  long : length l.sources.items ≡ l.files;
  all : with_rows l.column_type l.sources.items (drop l.row-index l.rows)
      ≡ with_rows l.column_type (replicate l.files Nothing) l.rows;
}
