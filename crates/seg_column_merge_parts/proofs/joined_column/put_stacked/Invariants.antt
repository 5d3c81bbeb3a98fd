use Rattle.std.proofs.Common.{◌≡◌, ◌++◌, drop}
use Rattle.std.specs.Prelude.{All}
use Rattle.seg_column_file.specs.RowOrders.{stacked}
use Rattle.seg_column_merge_parts.specs.SourceRows.{IsPut, joined}
use Rattle.seg_column_merge_parts.proofs.FirstRows.{row_bytes}
use Rattle.seg_column_merge_parts.proofs.joined_column.put_stacked.Given as goal

abbrev pub invariant-loop-file : goal.invariant-loop-file
invariant-loop-file l = record {
  left : All (IsPut l.sources) (stacked l.file (drop l.file l.counts));
  all : l.out.items ++ row_bytes (joined l.sources (stacked l.file (drop l.file l.counts)))
      ≡ l.fn.out.items ++ row_bytes (joined l.sources (stacked 0 l.counts));
}
