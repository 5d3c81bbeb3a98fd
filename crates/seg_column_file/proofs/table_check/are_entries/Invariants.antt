use Rattle.std.proofs.Common.{◌≡◌, ◌≤◌, ◌<◌, ◌+◌, ℕ, true, length}
use Rattle.seg_column_file.specs.ColumnTable.{IsEntry, may_follow, place_of}
use Rattle.seg_column_file.proofs.table_check.are_entries.Given as goal

abbrev pub invariant-loop-i : goal.invariant-loop-i
invariant-loop-i l = record {
  at : l.at ≡ place_of l.table l.i;
  within : l.at ≤ length l.table;
  each : (k : ℕ) → k < l.i → IsEntry l.table (place_of l.table k);
  follow : (k : ℕ) → k + 1 < l.i → may_follow l.table (place_of l.table k) (place_of l.table (k + 1)) ≡ true;
  last : (k : ℕ) → k + 1 ≡ l.i → l.before ≡ place_of l.table k;
}
