use Rattle.std.proofs.Common.{◌≡◌, ◌<◌, ◌≤◌, ◌+◌, ℕ, length}
use Rattle.std.specs.Ordering.{nat_cmp}
use Rattle.std.specs.Cmp.Lexicographic.{slice_cmp}
use Rattle.std.specs.declared.cmp.Ordering.TheVariants.{Less}
use Rattle.seg_termdict.specs.Dictionary.{key_start, key_of}
use Rattle.seg_termdict.proofs.keys.are_keys.Given as goal

abbrev pub invariant-loop-i : goal.invariant-loop-i
invariant-loop-i l = record {
  at : l.start ≡ key_start l.ends l.i;
  below : l.start ≤ length l.keys;
  rise : (k : ℕ) → k < l.i → key_start l.ends k ≤ key_start l.ends (k + 1);
  ascend : (k : ℕ) → k + 1 < l.i → slice_cmp nat_cmp (key_of l.ends l.keys k) (key_of l.ends l.keys (k + 1)) ≡ Less;
  last : (k : ℕ) → k + 1 ≡ l.i → l.previous ≡ key_of l.ends l.keys k;
}
