use Rattle.std.proofs.Common.{arith}
use Rattle.seg_values.specs.ValueTrees.{tree_of}
use Rattle.seg_text.proofs.MemberPlaces.{one_placed, places_placed}
use Rattle.seg_text.proofs.value.last_places.Goals as goal

pub loop-place-preserved : goal.loop-place-preserved
loop-place-preserved c =
    let members = c.args.members.now in
    record {
      members = one_placed (λ k. k.now) members c.loop-place.places.entries c.insert.new.self.entries c.get.result.0 c.loop-place.place (tree_of c.get.result.1.now) c.get.ensures c.in_ok-insert.ensures.entries c.loop-place.invariant.members;
      places = places_placed (λ k. k.now) members c.loop-place.places.entries c.insert.new.self.entries c.get.result.0 c.loop-place.place (tree_of c.get.result.1.now) c.get.ensures c.in_ok-insert.ensures.entries (omega (arith, c.len-place-end.ensures, c.loop-place-test.true)) c.loop-place.invariant.places;
    }
