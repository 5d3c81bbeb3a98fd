use Rattle.std.proofs.Common.{◌∙◌}
use Rattle.std.proofs.lemmas.List.{length-set}
use Rattle.seg_column_format.proofs.NumberPlaces.{placed_more}
use Rattle.seg_column_format.proofs.term_order.ordinals_of.Goals as goal

pub loop-place-preserved : goal.loop-place-preserved
loop-place-preserved c =
    let so_far = c.loop-place.invariant in
    record {
      many = length-set _ _ _ ∙ so_far.many;
      placed = placed_more c.args.numbers.now c.loop-place.ordinals.items c.loop-place.place so_far.many
          c.requires.below c.requires.distinct c.loop-place-test.true so_far.placed;
    }
