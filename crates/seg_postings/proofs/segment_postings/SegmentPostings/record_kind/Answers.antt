use Rattle.std.proofs.Common.{◌∙◌, Some, sym, ap}
use Rattle.seg_postings.specs.OpenPostings.{OpenPostings, kept_kind_of}
use Rattle.seg_postings.proofs.PostingsStreams.{stands, ended, recorded_kind}
use Rattle.seg_postings.proofs.segment_postings.SegmentPostings.record_kind.Goals as goal

pub returns-in-Some : goal.returns-in-Some
returns-in-Some c =
    let s = c.self.inside in
    let d = c.in-Some._current in
    let at = stands s.kind s.current d s.left s.postings.now s.positions.now c.in-Some.is c.self.invariant in
    sym (ap (λ k. Some k) (recorded_kind s.kind d.count s.positions.now at.head.recorded at.head.after at.head.is_recorded))
    ∙ sym (ap kept_kind_of at.left) ∙ ap (λ (v : OpenPostings). kept_kind_of v.left) c.self.view_is

pub returns-in-None : goal.returns-in-None
returns-in-None c =
    let s = c.self.inside in
    sym (ap kept_kind_of (ended s.kind s.current s.left s.postings.now s.positions.now c.in-None.is)) ∙ ap (λ (v : OpenPostings). kept_kind_of v.left) c.self.view_is
