use Rattle.std.proofs.Common.{◌≡◌, ◌+◌, ◌<◌, ◌^◌, ◌++◌, drop}
use Rattle.std.specs.Prelude.{All}
use Rattle.seg_column_format.specs.ColumnBytes.{ends_from, number_bytes, total}
use Rattle.seg_column_file.specs.RowOrders.{stacked}
use Rattle.seg_column_merge_parts.specs.SourceRows.{IsPut, joined}
use Rattle.seg_column_merge_parts.proofs.joined_column.put_stacked_ends.Given as goal

abbrev pub invariant-loop-file : goal.invariant-loop-file
invariant-loop-file l = record {
  left : All (IsPut l.sources) (stacked l.file (drop l.file l.counts));
  all : l.out.items ++ number_bytes (ends_from l.end (joined l.sources (stacked l.file (drop l.file l.counts))))
      ≡ l.fn.out.items ++ number_bytes (ends_from 0 (joined l.sources (stacked 0 l.counts)));
  sum : l.end + total (joined l.sources (stacked l.file (drop l.file l.counts)))
      ≡ total (joined l.sources (stacked 0 l.counts));
  fits : l.end < 2 ^ 64;
}
