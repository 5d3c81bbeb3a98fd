use Rattle.std.proofs.Common.{◌-◌, ◌≡◌, ◌≤◌, ◌<◌, ◌+◌, ◌*◌, ℕ, length}
use Rattle.seg_common.specs.LittleEndian as numbers
use Rattle.seg_store.proofs.document_places.first_past.Given as goal

-- the block is among those from `low` on, up to and including `high`
abbrev pub invariant-loop-low : goal.invariant-loop-low
invariant-loop-low l = record {
  order : l.low ≤ l.high;
  within : 12 * l.high ≤ length l.table;
  before : (i : ℕ) → i + 1 ≡ l.low → numbers.u32_at l.table (12 * i) ≤ l.doc;
  past : 12 * (l.high + 1) ≤ length l.table → l.doc < numbers.u32_at l.table (12 * l.high);
}

abbrev pub decreases-loop-low : goal.decreases-loop-low
decreases-loop-low l = l.high - l.low
