use Rattle.std.proofs.Common.{◌∙◌, sym, ap}
use Rattle.seg_postings.specs.OpenPostings.{OpenPostings, term_freq_of}
use Rattle.seg_postings.proofs.PostingsStreams.{stands, ended, count_kept, documents_keep, others_keep}
use Rattle.seg_postings.proofs.segment_postings.SegmentPostings.term_freq.Goals as goal

pub returns-in-Documents : goal.returns-in-Documents
returns-in-Documents c =
    let s = c.self.inside in
    let d = c.in-Some.current in
    let at = stands s.kind s.current d s.left s.postings.now s.positions.now c.in-Some.is c.self.invariant in
    sym (count_kept s.kind d.count s.positions.now at.head.recorded at.head.after at.head.is_recorded ∙ documents_keep s.kind d.count c.in-Documents.is)
    ∙ sym (ap term_freq_of at.left) ∙ ap (λ (v : OpenPostings). term_freq_of v.left) c.self.view_is

pub returns-in_default : goal.returns-in_default
returns-in_default c =
    let s = c.self.inside in
    let d = c.in-Some.current in
    let at = stands s.kind s.current d s.left s.postings.now s.positions.now c.in-Some.is c.self.invariant in
    sym (count_kept s.kind d.count s.positions.now at.head.recorded at.head.after at.head.is_recorded ∙ others_keep s.kind d.count c.in_default.not-Documents)
    ∙ sym (ap term_freq_of at.left) ∙ ap (λ (v : OpenPostings). term_freq_of v.left) c.self.view_is

pub returns-in-None : goal.returns-in-None
returns-in-None c =
    let s = c.self.inside in
    sym (ap term_freq_of (ended s.kind s.current s.left s.postings.now s.positions.now c.in-None.is)) ∙ ap (λ (v : OpenPostings). term_freq_of v.left) c.self.view_is
