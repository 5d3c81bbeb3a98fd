use Rattle.std.proofs.Common.{◌≡◌, ◌∙◌, true, sym, length}
use Rattle.std.specs.Prelude.{nat_lt}
use Rattle.seg_tool.proofs.Streamed.{still_of, term_more, terms_done}
use Rattle.seg_tool.proofs.summary_totals.with_dictionary.Goals as goal

pub loop-terms-preserved : goal.loop-terms-preserved
loop-terms-preserved c =
    let l = c.loop-terms in
    let f = c.args.field.now in
    let after = c.advance.new.self in
    let more : nat_lt l.terms.taken (length l.terms.terms) ≡ true = sym c.advance.ensures.more ∙ c.loop-terms-test.true in
    record {
      of = still_of f l.terms after l.invariant.of more c.advance.ensures.place;
      counted = term_more f l.terms after l.invariant.of more c.advance.ensures.place l.so_far _ _ c.key.result.now c.key.ensures c.in_ok-so_far.ensures l.invariant.counted;
    }

pub returns : goal.returns
returns c =
    let l = c.loop-terms in
    terms_done c.args.field.now l.terms l.invariant.of (sym c.advance.ensures.more ∙ c.loop-terms-test.false) l.so_far _ l.invariant.counted
