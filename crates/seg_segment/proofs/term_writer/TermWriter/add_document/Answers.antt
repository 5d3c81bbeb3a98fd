use Rattle.std.proofs.lemmas.Result.{on_ok_weaker}
use Rattle.seg_segment.proofs.WrittenDocuments.{may_open, may_occur, has_more}
use Rattle.seg_segment.proofs.term_writer.TermWriter.add_document.Goals as goal

pub open_term-requires : goal.open_term-requires
open_term-requires c = may_open c.args.bytes.now c.args.kind c.args.document c.args.count c.args.positions.now c.args.self.now c.requires.takes

pub write_document-requires : goal.write_document-requires
write_document-requires c =
    may_occur c.args.bytes.now c.args.kind c.args.document c.args.count c.args.positions.now c.args.self.now c.open_term.new.self c.requires.takes c.in_ok-open_term.ensures c.requires.recorded

pub returns : goal.returns
returns c =
    on_ok_weaker c.write_document.result
    (has_more c.args.bytes.now c.args.kind c.args.document c.args.count c.args.positions.now c.args.self.now c.open_term.new.self c.requires.takes c.in_ok-open_term.ensures c.write_document.new.self)
    c.write_document.ensures
