use Rattle.std.proofs.Common.{sym, ◌∙◌, subst}
use Rattle.seg_values.specs.Tree.{Document}
use Rattle.seg_doc_bytes.specs.FrontValues.{Makes}
use Rattle.seg_doc_bytes.specs.FrontReaders as read
use Rattle.seg_doc_bytes.specs.StoredDocument as documents
use Rattle.seg_doc_bytes.proofs.WholeDocuments.{document_lacks, document_whole, document_left_over}
use Rattle.seg_doc_bytes.proofs.document_reader.document_of.Goals as goal

pub returns-in_default : goal.returns-in_default
returns-in_default c = document_lacks c.args.stored.now (subst (Makes (read.counted_at documents.pair_at) (λ (d : Document). d) c.args.stored.now c.read_pairs.new.bytes.now) c.in_default.is c.in_ok-document.ensures)

pub returns-then-not-is_empty : goal.returns-then-not-is_empty
returns-then-not-is_empty c =
    let made = subst (Makes (read.counted_at documents.pair_at) (λ (d : Document). d) c.args.stored.now c.read_pairs.new.bytes.now) c.in-Some.is c.in_ok-document.ensures in
    document_left_over c.args.stored.now c.read_pairs.new.bytes.now c.in-Some.document made (sym c.is_empty.ensures ∙ c.if-not-is_empty.true)

pub returns : goal.returns
returns c =
    let made = subst (Makes (read.counted_at documents.pair_at) (λ (d : Document). d) c.args.stored.now c.read_pairs.new.bytes.now) c.in-Some.is c.in_ok-document.ensures in
    document_whole c.args.stored.now c.read_pairs.new.bytes.now c.in-Some.document made (sym c.is_empty.ensures ∙ c.if-not-is_empty.false)
