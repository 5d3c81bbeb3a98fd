use Rattle.std.proofs.Common.{◌≡◌, ◌-◌, ◌+◌, ◌<◌, ◌≤◌, length, replicate, refl, arith}
use Rattle.seg_paths.proofs.SlotSizes.{SizesSoFar-more, SizesSoFar-none}
use Rattle.seg_paths.proofs.subtrees.subtree_sizes.Goals as goal

pub loop-left-init : goal.loop-left-init
loop-left-init c =
    let ones : c.in_ok-sizes.sizes.items ≡ replicate (length c.args.slots.now + 1) 1 =
    c.in_ok-sizes.ensures.items_if_clones_equal (λ y h. h) in
    record {
      within = omega arith;
      so_far = SizesSoFar-none c.args.slots.now c.in_ok-sizes.sizes.items ones;
    }

pub loop-left-preserved : goal.loop-left-preserved
loop-left-preserved c =
    let left = c.loop-left.left in
    let next : left ≡ (left - 1) + 1 = omega (arith, c.loop-left-test.true) in
    let within : left ≤ length c.args.slots.now = c.loop-left.invariant.within in
    let lt : left - 1 < length c.args.slots.now = omega (arith, c.loop-left-test.true, within) in
    record {
      within = omega (arith, within);
      so_far = SizesSoFar-more c.args.slots.now c.loop-left.sizes.items left (left - 1) _ c.index-size.result.now
          c.index_mut-in-loop-left.result.now c.loop-left.invariant.so_far next lt c.requires refl c.index-size.ensures
          c.index_mut-in-loop-left.ensures.value;
    }
