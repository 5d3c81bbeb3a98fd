use Rattle.std.proofs.Common.{◌∙◌, arith, sym, subst}
use Rattle.seg_postings.specs.PassedBytes.{Passes}
use Rattle.seg_postings.specs.Postings.{positions_at}
use Rattle.seg_postings.proofs.PassedPositions.{step, ends_early, ends}
use Rattle.seg_postings.proofs.documents.pass_positions.Goals as goal

pub loop-preserved : goal.loop-preserved
loop-preserved c = record {
  low = omega (arith, c.in_ok-difference.ensures.bounds, c.loop.invariant.low);
  read = step c.args.count c.loop.counter c.loop.before c.in_ok-difference.difference c.loop.bytes.now c.take_number.new.bytes.now c.loop-test.true c.in_ok-difference.ensures.read ∙ c.loop.invariant.read;
}

pub returns : goal.returns
returns c = ends c.args.count c.loop.counter c.loop.before c.loop.bytes.now c.args.bytes.now.now c.loop-test.false c.loop.invariant.read

pub returns-in_err-difference : goal.returns-in_err-difference
returns-in_err-difference c =
    subst (λ r. Passes (positions_at c.args.count 0) c.args.bytes.now.now c.take_number.new.bytes.now r) (sym c.from_residual.ensures)
    (ends_early c.args.count c.loop.counter c.loop.before c.loop.bytes.now c.args.bytes.now.now c.loop-test.true c.loop.invariant.read c.in_err-difference.ensures.read)
