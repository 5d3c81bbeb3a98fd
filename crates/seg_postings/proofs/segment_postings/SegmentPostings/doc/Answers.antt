use Rattle.std.proofs.Common.{◌∙◌, sym, ap}
use Rattle.seg_postings.specs.OpenPostings.{OpenPostings, document_of}
use Rattle.seg_postings.proofs.PostingsStreams.{stands, ended}
use Rattle.seg_postings.proofs.segment_postings.SegmentPostings.doc.Goals as goal

pub returns-in-Some : goal.returns-in-Some
returns-in-Some c =
    let s = c.self.inside in
    let at = stands s.kind s.current c.in-Some.current s.left s.postings.now s.positions.now c.in-Some.is c.self.invariant in
    sym (ap document_of at.left) ∙ ap (λ (v : OpenPostings). document_of v.left) c.self.view_is

pub returns-in-None : goal.returns-in-None
returns-in-None c =
    let s = c.self.inside in
    sym (ap document_of (ended s.kind s.current s.left s.postings.now s.positions.now c.in-None.is)) ∙ ap (λ (v : OpenPostings). document_of v.left) c.self.view_is
