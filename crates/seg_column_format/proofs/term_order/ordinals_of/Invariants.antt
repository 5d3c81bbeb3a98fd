use Rattle.std.proofs.Common.{◌≡◌, ◌<◌, ℕ, get_or, length}
use Rattle.seg_column_format.proofs.term_order.ordinals_of.Given as goal

-- those that have a place so far
abbrev pub invariant-loop-place : goal.invariant-loop-place
invariant-loop-place l = record {
  many : length l.ordinals.items ≡ length l.numbers;
  placed : (k : ℕ) → k < l.place → get_or l.ordinals.items (get_or l.numbers k 0) 0 ≡ k;
}
