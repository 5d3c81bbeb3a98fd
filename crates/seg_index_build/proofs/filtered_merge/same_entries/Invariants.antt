use Rattle.std.proofs.Common.{◌≡◌, drop, length}
use Rattle.seg_index_build.proofs.filtered_merge.same_entries.Given as goal

-- the lists are equal where what is left of them is, and are equally long
abbrev pub invariant-loop-at : goal.invariant-loop-at
invariant-loop-at l = record {
  many : length l.left ≡ length l.right;
  so : drop l.at l.left ≡ drop l.at l.right → l.left ≡ l.right;
  back : l.left ≡ l.right → drop l.at l.left ≡ drop l.at l.right;
}
