use Rattle.std.proofs.Common.{sym, ap, length, ◌∙◌}
use Rattle.seg_text.proofs.DeadIds.{no_line, whole_line}
use Rattle.seg_text.proofs.header.push_dead.Goals as goal

pub returns-then-num_alive_docs-documents : goal.returns-then-num_alive_docs-documents
returns-then-num_alive_docs-documents c =
    no_line c.args.alive.now c.args.out.now.items (sym c.num_alive_docs.ensures ∙ c.if-num_alive_docs-documents.true ∙ c.max_value-documents.ensures ∙ ap length c.bitset.ensures)

pub returns : goal.returns
returns c =
    whole_line c.args.alive.now c.args.out.now.items c.extend_from_slice.new.self.items c.push_dead_ids.new.out.items c.push.new.self.items
    (λ all. c.if-num_alive_docs-documents.false (c.num_alive_docs.ensures ∙ all ∙ sym (c.max_value-documents.ensures ∙ ap length c.bitset.ensures))) c.in_ok-extend_from_slice.ensures.items c.in_ok-push_dead_ids.ensures c.in_ok-push.ensures.items
