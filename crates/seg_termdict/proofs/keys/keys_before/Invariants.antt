use Rattle.std.proofs.Common.{◌≡◌, ◌<◌, ◌≤◌, ◌-◌, ℕ, true, false}
use Rattle.seg_termdict.specs.Dictionary.{key_of}
use Rattle.seg_termdict.specs.TermRanges.{comes_before}
use Rattle.seg_termdict.proofs.keys.keys_before.Given as goal

abbrev pub invariant-loop-low : goal.invariant-loop-low
invariant-loop-low l = record {
  order : l.low ≤ l.high;
  within : l.high ≤ l.count;
  before : (k : ℕ) → k < l.low → comes_before l.through l.bound (key_of l.ends l.keys k) ≡ true;
  behind : (k : ℕ) → l.high ≤ k → k < l.count → comes_before l.through l.bound (key_of l.ends l.keys k) ≡ false;
}

abbrev pub decreases-loop-low : goal.decreases-loop-low
decreases-loop-low l = l.high - l.low
