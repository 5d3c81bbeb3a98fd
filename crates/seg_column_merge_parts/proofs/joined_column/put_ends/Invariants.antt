use Rattle.std.proofs.Common.{◌≡◌, ◌+◌, ◌<◌, ◌^◌, ◌++◌}
use Rattle.std.specs.Prelude.{All}
use Rattle.seg_column_format.specs.ColumnBytes.{ends_from, number_bytes, total}
use Rattle.seg_column_merge_parts.specs.SourceRows.{IsPut, joined}
use Rattle.seg_column_merge_parts.proofs.joined_column.put_ends.Given as goal

abbrev pub invariant-loop-file : goal.invariant-loop-file
invariant-loop-file l = record {
  can : (goal.iterator-loop-file).can_next l.file-iterator;
  finite : (goal.iterator-loop-file).is_finite l.file-iterator;
  left : All (IsPut l.sources) l.file-iterator;
  all : l.out.items ++ number_bytes (ends_from l.end (joined l.sources l.file-iterator))
      ≡ l.fn.out.items ++ number_bytes (ends_from 0 (joined l.sources l.fn.rows));
  sum : l.end + total (joined l.sources l.file-iterator) ≡ total (joined l.sources l.fn.rows);
  fits : l.end < 2 ^ 64;
}
