use Rattle.seg_index_build.proofs.JoinedIds.{all_joined}
use Rattle.seg_index_build.proofs.payload.push_ids.Goals as goal

pub returns : goal.returns
returns c =
    all_joined _ _ _ _ c.in-Some.rest.now c.args.ids.now c.loop-id.id-index c.loop-id-test.false c.loop-id.invariant
    c.in_ok-push_id.ensures c.in-Some.ensures.cases.0
