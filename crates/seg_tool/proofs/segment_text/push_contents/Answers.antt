use Rattle.std.proofs.Common.{ap}
use Rattle.seg_store.specs.Store.{documents_of}
use Rattle.seg_tool.specs.Printing.{read_segment}
use Rattle.seg_tool.proofs.Printed.{segment_read}
use Rattle.seg_tool.proofs.segment_text.push_contents.Goals as goal

pub returns : goal.returns
returns c =
    let reader = c.args.reader.now in
    segment_read c.push_documents.result reader.schema c.schema.result.now (read_segment c.args.label.now reader) (documents_of c.store_reader.result.now)
    c.args.out.now.items c.push_head.new.out.items c.push_fields.new.out.items c.push_documents.new.out.items
    c.schema.ensures (ap documents_of c.store_reader.ensures) c.in_ok-push_head.ensures c.in_ok-push_fields.ensures c.push_documents.ensures
