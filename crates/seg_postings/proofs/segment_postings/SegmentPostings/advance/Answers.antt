use Rattle.std.proofs.Common.{◌≡◌, ◌∙◌, [], List, drop, sym, ap}
use Rattle.seg_model.specs.DocumentTerms.{Posting}
use Rattle.seg_postings.specs.OpenPostings.{OpenPostings, document_of}
use Rattle.seg_postings.proofs.PostingsStreams.{ended}
use Rattle.seg_postings.proofs.segment_postings.SegmentPostings.advance.Goals as goal

pub returns-in_default-clause-left : goal.returns-in_default-clause-left
returns-in_default-clause-left c =
    let s = c.self.inside in
    let nil : c.args.self.now.left ≡ [] = sym (ap (λ (v : OpenPostings). v.left) c.self.view_is) ∙ ended s.kind s.current s.left s.postings.now s.positions.now c.in_default.is in
    nil ∙ sym (ap (λ (ps : List Posting). drop 1 ps) nil)

pub returns-in_default-clause-doc : goal.returns-in_default-clause-doc
returns-in_default-clause-doc c =
    let s = c.self.inside in
    sym (ap document_of (ended s.kind s.current s.left s.postings.now s.positions.now c.in_default.is)) ∙ ap (λ (v : OpenPostings). document_of v.left) c.self.view_is
