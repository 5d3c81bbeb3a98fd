use Rattle.std.proofs.Common.{◌≡◌, ◌+◌, ◌<◌, length, replicate, slice_index_or, refl, ap, ◌∙◌, arith}
use Rattle.std.proofs.lemmas.List.{length-replicate}
use Rattle.seg_paths.proofs.NodeOffsets.{AreOffsets-all, OffsetsSoFar-more, OffsetsSoFar-none, end_fits}
use Rattle.seg_paths.proofs.Orders.{IsOrder-from, order-below}
use Rattle.seg_paths.proofs.offset.offsets.Goals as goal

pub loop-number-init : goal.loop-number-init
loop-number-init c =
    let zeros : c.in_ok-offsets.offsets.items ≡ replicate (length c.args.slots.now) 0 =
    c.in_ok-offsets.ensures.items_if_clones_equal (λ y h. h) in
    let ones : c.in_ok-next.next.items ≡ replicate (length c.args.slots.now + 1) 1 =
    c.in_ok-next.ensures.items_if_clones_equal (λ y h. h) in
    let is = IsOrder-from (length c.args.slots.now) c.args.order.now c.requires.order in
    record {
      so_far = OffsetsSoFar-none c.args.slots.now c.args.sizes.now c.args.order.now c.in_ok-offsets.offsets.items
          c.in_ok-next.next.items c.requires.sizes is (ap length zeros ∙ length-replicate (length c.args.slots.now) 0) ones;
    }

pub offset_bounds-slots-number : goal.offset_bounds-slots-number
offset_bounds-slots-number c =
    let within : slice_index_or c.args.order.now c.loop-number.number-index 0 < length c.args.slots.now =
    order-below (length c.args.slots.now) c.args.order.now c.loop-number.number-index c.requires.order
    c.loop-number-test.true in
    omega (arith, within)

pub bounds-slots-number : goal.bounds-slots-number
bounds-slots-number c = order-below (length c.args.slots.now) c.args.order.now c.loop-number.number-index c.requires.order
    c.loop-number-test.true

pub index_mut-requires-in-loop-number : goal.index_mut-requires-in-loop-number
index_mut-requires-in-loop-number c =
    let within : slice_index_or c.args.order.now c.loop-number.number-index 0 < length c.args.slots.now =
    order-below (length c.args.slots.now) c.args.order.now c.loop-number.number-index c.requires.order
    c.loop-number-test.true in
    omega (arith, within, c.loop-number.invariant.so_far.many, c.loop-number.offsets.ok)

pub overflow_add-number : goal.overflow_add-number
overflow_add-number c =
    let within : slice_index_or c.args.order.now c.loop-number.number-index 0 < length c.args.slots.now =
    order-below (length c.args.slots.now) c.args.order.now c.loop-number.number-index c.requires.order
    c.loop-number-test.true in
    omega (arith, within)

pub offset_bounds-sizes-number : goal.offset_bounds-sizes-number
offset_bounds-sizes-number c =
    let within : slice_index_or c.args.order.now c.loop-number.number-index 0 < length c.args.slots.now =
    order-below (length c.args.slots.now) c.args.order.now c.loop-number.number-index c.requires.order
    c.loop-number-test.true in
    omega (arith, within, c.requires.sizes.many)

pub bounds-sizes-number : goal.bounds-sizes-number
bounds-sizes-number c =
    let within : slice_index_or c.args.order.now c.loop-number.number-index 0 < length c.args.slots.now =
    order-below (length c.args.slots.now) c.args.order.now c.loop-number.number-index c.requires.order
    c.loop-number-test.true in
    omega (arith, within, c.requires.sizes.many)

pub overflow_add-offset : goal.overflow_add-offset
overflow_add-offset c =
    let is = IsOrder-from (length c.args.slots.now) c.args.order.now c.requires.order in
    let fits = end_fits c.args.slots.now c.args.sizes.now c.args.order.now c.loop-number.number-index
    c.loop-number.offsets.items c.loop-number.next.items c.loop-number.invariant.so_far c.requires.slots
    c.requires.sizes is c.loop-number-test.true _ _ c.index-offset.result.now _ refl refl c.index-offset.ensures refl in
    omega (arith, fits)

pub loop-number-preserved : goal.loop-number-preserved
loop-number-preserved c =
    let is = IsOrder-from (length c.args.slots.now) c.args.order.now c.requires.order in
    record {
      so_far = OffsetsSoFar-more c.args.slots.now c.args.sizes.now c.args.order.now c.loop-number.number-index
          c.loop-number.offsets.items c.loop-number.next.items c.loop-number.invariant.so_far c.requires.slots
          c.requires.sizes is c.loop-number-test.true _ _ c.index-offset.result.now _ refl refl c.index-offset.ensures
          refl;
    }

pub returns : goal.returns
returns c =
    let is = IsOrder-from (length c.args.slots.now) c.args.order.now c.requires.order in
    AreOffsets-all c.args.slots.now c.args.sizes.now c.args.order.now c.loop-number.number-index
    c.loop-number.offsets.items c.loop-number.next.items c.loop-number.invariant.so_far c.requires.slots is
    c.loop-number-test.false
