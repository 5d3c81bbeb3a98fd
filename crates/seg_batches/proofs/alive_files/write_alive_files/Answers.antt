use Rattle.std.proofs.lemmas.Option.{slice_get_read}
use Rattle.std.proofs.Common.{refl, arith}
use Rattle.seg_batches.proofs.AliveTurns.{alive_turn, alive_ends, none_yet, all_written}
use Rattle.seg_batches.proofs.alive_files.write_alive_files.Goals as goal

pub returns-in-Err : goal.returns-in-Err
returns-in-Err g c =
    let segments = c.args.segments.now in
    let at = c.loop-segment.segment-index in
    let found = slice_get_read segments _ at c.segment-item.result refl c.loop-segment-test.true c.segment-item.is in
    record { does = alive_ends c.args.stamp segments at c.segment-item.result found _ _ _ c.loop-segment.invariant c.in-Err.e c.in-Err.ensures }

pub loop-segment-preserved : goal.loop-segment-preserved
loop-segment-preserved g c =
    let segments = c.args.segments.now in
    let at = c.loop-segment.segment-index in
    let found = slice_get_read segments _ at c.segment-item.result refl c.loop-segment-test.true c.segment-item.is in
    alive_turn c.args.stamp segments at c.segment-item.result found _ _ _ c.loop-segment.invariant c.in-Ok.ensures

pub returns : goal.returns
returns g c = record {
  does = all_written c.args.stamp c.args.segments.now c.loop-segment.segment-index _ _ (omega (arith, c.loop-segment-test.false)) c.loop-segment.invariant;
}

pub loop-segment-init : goal.loop-segment-init
loop-segment-init g c = none_yet c.args.stamp _
