use Rattle.std.proofs.Common.{◌∙◌, sym, arith}
use Rattle.seg_postings.proofs.CheckedTerms.{counted_turn, counted_stops}
use Rattle.seg_postings.proofs.terms_check.are_counted.Goals as goal

pub returns-then-not-is_info_counted-clause-ok : goal.returns-then-not-is_info_counted-clause-ok
returns-then-not-is_info_counted-clause-ok c =
    sym (sym c.loop-ord.invariant ∙ counted_stops (record { kind = c.args.asked.kind; index = c.args.asked.index; max_doc = c.args.max_doc }) c.args.postings.now c.args.terms.now c.loop-ord.ord c.in_ok-kind.kind c.term_info_from_ord-info.result (omega (arith, c.loop-ord-test.true, c.num_terms-ord-end.ensures)) c.in_ok-kind.ensures.ok c.term_info_from_ord-info.ensures (sym c.if-not-is_info_counted.ensures))

pub loop-ord-preserved : goal.loop-ord-preserved
loop-ord-preserved c =
    counted_turn (record { kind = c.args.asked.kind; index = c.args.asked.index; max_doc = c.args.max_doc }) c.args.postings.now c.args.terms.now c.loop-ord.ord c.in_ok-kind.kind c.term_info_from_ord-info.result (omega (arith, c.loop-ord-test.true, c.num_terms-ord-end.ensures)) c.in_ok-kind.ensures.ok c.term_info_from_ord-info.ensures (sym c.if-not-is_info_counted.ensures)
    ∙ c.loop-ord.invariant
