use Rattle.std.proofs.Common.{◌-◌, ◌≡◌, ◌≤◌, ◌<◌, ◌+◌, ◌*◌, ℕ}
use Rattle.seg_common.specs.LittleEndian as numbers
use Rattle.seg_directory.proofs.composite_file.first_not_below.Given as goal

-- the entry is among those from `low` on, up to and including `high`
abbrev pub invariant-loop-low : goal.invariant-loop-low
invariant-loop-low l = record {
  order : l.low ≤ l.high;
  within : l.high ≤ l.count;
  before : (i : ℕ) → i + 1 ≡ l.low → numbers.u32_at l.table (12 * i) < l.field;
  past : l.high < l.count → l.field ≤ numbers.u32_at l.table (12 * l.high);
}

abbrev pub decreases-loop-low : goal.decreases-loop-low
decreases-loop-low l = l.high - l.low
