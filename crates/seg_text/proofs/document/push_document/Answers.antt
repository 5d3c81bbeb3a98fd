use Rattle.seg_doc_bytes.specs.StoredDocument.{stored_document_of}
use Rattle.seg_text.proofs.PrintedStored.{line_printed}
use Rattle.seg_text.proofs.document.push_document.Goals as goal

pub returns : goal.returns
returns c =
    line_printed c.args.schema.now c.args.id (stored_document_of c.args.stored.now) c.args.out.now.items c.extend_from_slice.new.self.items c.push_decimal.new.out.items c.push.new.self.items c.push_pairs.new.out.items c.push-2.new.self.items
    c.in_ok-extend_from_slice.ensures.items c.in_ok-push_decimal.ensures c.in_ok-push.ensures.items c.in_ok-push_pairs.ensures c.in_ok-push-2.ensures.items
