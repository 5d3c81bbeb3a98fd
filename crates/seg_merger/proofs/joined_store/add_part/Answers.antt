use Rattle.std.proofs.Common.{sym, ◌∙◌}
use Rattle.seg_merger.proofs.JoinedStores.{blocks_fit, copies_fit, one_copied, one_stacked}
use Rattle.seg_merger.proofs.joined_store.add_part.Goals as goal

pub stack-requires : goal.stack-requires
stack-requires c = record {
  limit = blocks_fit c.args.part.now c.stored_count-count.ensures.stored 2147483648 c.store_reader.result.now c.args.writer.now (sym c.is_stacked.ensures ∙ c.if-is_stacked.true) c.store_reader.ensures c.requires.limit;
}

pub returns-then-is_stacked-clause-ok : goal.returns-then-is_stacked-clause-ok
returns-then-is_stacked-clause-ok c =
    one_stacked c.args.part.now c.stack.result c.store_reader.result.now c.args.writer.now c.stack.new.self (sym c.is_stacked.ensures ∙ c.if-is_stacked.true) c.store_reader.ensures c.stack.ensures.ok

pub add_documents-requires-clause-limit : goal.add_documents-requires-clause-limit
add_documents-requires-clause-limit c = copies_fit c.args.part.now c.stored_count-count.ensures.stored 2147483648 c.args.writer.now c.requires.limit

pub returns-clause-ok : goal.returns-clause-ok
returns-clause-ok c =
    one_copied c.args.part.now c.add_documents.result c.args.writer.now c.add_documents.new.writer (sym c.is_stacked.ensures ∙ c.if-is_stacked.false) c.add_documents.ensures.ok
