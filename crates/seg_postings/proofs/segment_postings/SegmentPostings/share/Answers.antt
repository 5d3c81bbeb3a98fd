use Rattle.std.proofs.Common.{◌<◌, ◌^◌, length, subst}
use Rattle.seg_postings.specs.OpenPostings.{OpenPostings}
use Rattle.seg_postings.proofs.PostingsLimits.{few_left}
use Rattle.seg_postings.proofs.segment_postings.SegmentPostings.share.Goals as goal

pub returns-clause-few : goal.returns-clause-few
returns-clause-few c =
    let s = c.self.inside in
    subst (λ (v : OpenPostings). length v.left < 2 ^ 32) c.self.view_is (few_left s.kind s.current s.left s.postings.now s.positions.now c.self.invariant)
