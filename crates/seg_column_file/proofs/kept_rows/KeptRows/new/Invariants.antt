use Rattle.std.proofs.Common.{◌≡◌, ◌<◌, ◌||◌, ℕ, [], false, get_or, length}
use Rattle.std.specs.Prelude.{All}
use Rattle.seg_column_file.specs.RowOrders.{IsRow}
use Rattle.seg_column_file.specs.KeptRows.{is_kept}
use Rattle.seg_column_file.proofs.kept_rows.KeptRows.new.Given as goal

abbrev pub invariant-loop-file : goal.invariant-loop-file
invariant-loop-file l = record {
  can : (goal.iterator-loop-file).can_next l.file-iterator;
  finite : (goal.iterator-loop-file).is_finite l.file-iterator;
  left : All (IsRow l.counts) l.file-iterator;
  files : length l.kept ≡ length l.counts;
  rows : (f : ℕ) → length (get_or l.kept f []) ≡ get_or l.counts f 0;
  marks : (f r : ℕ) → r < get_or l.counts f 0
      → (get_or (get_or l.kept f []) r false || is_kept l.file-iterator f r) ≡ is_kept l.fn.rows f r;
}
