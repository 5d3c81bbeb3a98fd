use Rattle.std.proofs.Common.{◌∙◌, sym, ap, Some}
use Rattle.seg_postings.proofs.PostingsStreams.{begins, taken}
use Rattle.seg_postings.proofs.segment_postings.SegmentPostings.new.Goals as goal

pub invariant_of-result : goal.invariant_of-result
invariant_of-result c =
    let b = begins c.in-Some.kind c.args.doc_freq c.args.postings.now c.take_kind.new.bytes.now c.args.positions.now c.in-Some.ensures c.requires.read in
    let g = taken c.in-Some.kind c.args.doc_freq 0 0 c.take_kind.new.bytes.now c.take_document-current.new.bytes.now c.args.positions.now c.take_document-current.result b.all c.requires.occurs b.is_all c.take_document-current.ensures.read in
    g.read

pub returns-clause-left : goal.returns-clause-left
returns-clause-left c =
    let b = begins c.in-Some.kind c.args.doc_freq c.args.postings.now c.take_kind.new.bytes.now c.args.positions.now c.in-Some.ensures c.requires.read in
    let g = taken c.in-Some.kind c.args.doc_freq 0 0 c.take_kind.new.bytes.now c.take_document-current.new.bytes.now c.args.positions.now c.take_document-current.result b.all c.requires.occurs b.is_all c.take_document-current.ensures.read in
    b.whole_is ∙ ap (λ ps. Some ps) (sym g.left)
