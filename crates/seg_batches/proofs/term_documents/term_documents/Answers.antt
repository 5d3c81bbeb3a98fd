use Rattle.std.proofs.Common.{◌≡◌, map, sym, ◌∙◌}
use Rattle.std.proofs.lemmas.Result.{IfOk-weaker}
use Rattle.seg_model.specs.DeletesByPostings.{has_posting}
use Rattle.seg_open.specs.OpenSegment.{terms_in}
use Rattle.seg_batches.specs.AppliedDeletes.{named_below}
use Rattle.seg_batches.proofs.DroppedNumbers.{documents_of}
use Rattle.seg_batches.proofs.NamedDocuments.{term_named}
use Rattle.seg_batches.proofs.term_documents.term_documents.Goals as goal

pub returns-in-Some : goal.returns-in-Some
returns-in-Some c =
    let s = c.args.reader.now in
    let term = c.args.term.now in
    IfOk-weaker c.documents_of.result (λ docs. docs.items ≡ documents_of c.in-Some.postings.left)
    (λ docs. docs.items ≡ named_below s.documents (λ document. has_posting (map terms_in s.fields) document term))
    (λ docs are. are ∙ sym c.in-Some.ensures ∙ term_named s c.contents_have_full_shape.ensures term.field term.bytes)
    c.documents_of.ensures

pub returns-in-None : goal.returns-in-None
returns-in-None c =
    let s = c.args.reader.now in
    let term = c.args.term.now in
    c.new.ensures.items ∙ sym c.in-None.ensures ∙ term_named s c.contents_have_full_shape.ensures term.field term.bytes
