use Rattle.seg_paths.proofs.SlotSizes.{SizesSoFar}
use Rattle.std.proofs.Common.{length, ◌≤◌}
use Rattle.seg_paths.proofs.subtrees.subtree_sizes.Given as goal

abbrev pub invariant-loop-left : goal.invariant-loop-left
invariant-loop-left l = record {
  within : l.left ≤ length l.slots;
  so_far : SizesSoFar l.slots l.left l.sizes.items;
}

abbrev pub decreases-loop-left : goal.decreases-loop-left
decreases-loop-left l = l.left
