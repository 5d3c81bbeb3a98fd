use Rattle.std.proofs.Common.{◌∙◌, ◌+◌, ◌-◌, sym, ap, arith, List, ℕ}
use Rattle.seg_postings.specs.Postings.{positions_at}
use Rattle.seg_postings.proofs.PostingsStreams.{put, put_turn, still_there, always_there, put_ends}
use Rattle.seg_postings.proofs.segment_postings.push_positions.Goals as goal

pub unreachable-requires : goal.unreachable-requires
unreachable-requires c = always_there c.args.count c.loop.counter c.loop.before c.loop.left.now c.loop-test.true c.in_default.ensures.read c.loop.invariant.there

pub loop-preserved : goal.loop-preserved
loop-preserved c =
    let d = c.in-Some.difference in
    let e = c.in-Some.ensures.read in
    record {
      low = omega (arith, c.in-Some.ensures.bounds, c.loop.invariant.low);
      there = still_there c.args.count c.loop.counter c.loop.before c.loop.left.now c.loop-test.true d c.take_number.new.bytes.now e c.loop.invariant.there;
      read = ap (λ (l : List ℕ). put l (positions_at (c.args.count - (c.loop.counter + 1)) (c.loop.before + d) c.take_number.new.bytes.now)) c.in_ok-push.ensures.items
          ∙ put_turn c.args.count c.loop.counter c.loop.before c.loop.left.now c.loop-test.true c.loop.out.items d c.take_number.new.bytes.now e ∙ c.loop.invariant.read;
    }

pub returns : goal.returns
returns c = sym c.loop.invariant.read ∙ put_ends c.args.count c.loop.counter c.loop.before c.loop.left.now c.loop.out.items c.loop-test.false
