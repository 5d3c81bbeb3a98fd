use Rattle.seg_tokens.proofs.Exports.{all_passed, one_more}
use Rattle.seg_meta.specs.MetaBounds.{SegmentFits}
use Rattle.seg_meta.proofs.meta_law.segments_fit.Goals as goal

pub loop-segment-preserved : goal.loop-segment-preserved
loop-segment-preserved c = one_more SegmentFits c.args.segments.now c.loop-segment.segment-index c.segment-item.result c.loop-segment-test.true c.segment-item.is c.fits.ensures c.loop-segment.invariant

pub returns : goal.returns
returns c = all_passed SegmentFits c.args.segments.now c.loop-segment.segment-index c.loop-segment-test.false c.loop-segment.invariant
