use Rattle.std.proofs.Common.{◌≡◌, ◌<◌, ◌≤◌, ◌-◌, ℕ}
use Rattle.std.specs.Ordering.{nat_cmp}
use Rattle.std.specs.Cmp.Lexicographic.{slice_cmp}
use Rattle.std.specs.declared.cmp.Ordering.TheVariants.{Less, Greater}
use Rattle.seg_columns.specs.Dictionaries.{term_at}
use Rattle.seg_columns.proofs.terms.find_term.Given as goal

abbrev pub invariant-loop-low : goal.invariant-loop-low
invariant-loop-low l = record {
  order : l.low ≤ l.high;
  within : l.high ≤ l.count;
  below : (k : ℕ) → k < l.low → slice_cmp nat_cmp (term_at l.bytes k) l.term ≡ Less;
  above : (k : ℕ) → l.high ≤ k → k < l.count → slice_cmp nat_cmp (term_at l.bytes k) l.term ≡ Greater;
}

abbrev pub decreases-loop-low : goal.decreases-loop-low
decreases-loop-low l = l.high - l.low
