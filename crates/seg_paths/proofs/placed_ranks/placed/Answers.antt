use Rattle.std.proofs.Common.{◌≡◌, ◌+◌, List, ℕ, slice_index_or, refl, ap, subst, sym, ◌∙◌}
use Rattle.seg_paths.specs.Slots.{base}
use Rattle.seg_paths.proofs.NodeRanks.{PlacedSoFar, PlacedSoFar-more}
use Rattle.seg_paths.proofs.placed_ranks.placed.Goals as goal

pub loop-number-preserved : goal.loop-number-preserved
loop-number-preserved c =
    let number = c.loop-number.number in
    let start_is : c.base.result ≡ base c.loop-number.ranks.items (slice_index_or c.args.slots.now number 0) =
    c.base.ensures ∙ ap (λ (l : List ℕ). base l (slice_index_or c.args.slots.now number 0)) c.deref.ensures.value in
    record {
      so_far = subst (PlacedSoFar c.args.slots.now c.args.offsets.now (number + 1)) (sym c.in_ok-push.ensures.items)
          (PlacedSoFar-more c.args.slots.now c.args.offsets.now number c.loop-number.ranks.items
          c.loop-number.invariant.so_far c.requires.slots c.loop-number-test.true c.requires.room
          (slice_index_or c.args.slots.now number 0) c.base.result (slice_index_or c.args.offsets.now number 0) refl
          start_is refl);
    }
