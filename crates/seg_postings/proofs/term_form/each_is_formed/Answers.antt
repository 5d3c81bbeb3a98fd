use Rattle.std.proofs.Common.{◌≡◌, ◌∙◌, true, sym, length}
use Rattle.std.specs.Prelude.{nat_lt}
use Rattle.seg_postings.proofs.StreamedTerms.{still_of, formed_turn, formed_stops, formed_ends}
use Rattle.seg_postings.proofs.term_form.each_is_formed.Goals as goal

pub loop-stream-preserved : goal.loop-stream-preserved
loop-stream-preserved c =
    let l = c.loop-stream in
    let more : nat_lt l.stream.taken (length l.stream.terms) ≡ true = sym c.advance.ensures.more ∙ c.loop-stream-test.true in
    record {
      of = still_of c.args.terms.now l.stream l.invariant.of c.advance.new.self more c.advance.ensures.place;
      left = formed_turn c.args.terms.now l.stream l.invariant.of c.advance.new.self more c.advance.ensures.place c.args.kind c.key.result.now c.key.ensures (sym c.if-not-has_form.ensures) ∙ l.invariant.left;
    }

pub returns-then-not-has_form : goal.returns-then-not-has_form
returns-then-not-has_form c =
    let l = c.loop-stream in
    let more : nat_lt l.stream.taken (length l.stream.terms) ≡ true = sym c.advance.ensures.more ∙ c.loop-stream-test.true in
    sym (sym l.invariant.left ∙ formed_stops c.args.terms.now l.stream l.invariant.of c.advance.new.self more c.advance.ensures.place c.args.kind c.key.result.now c.key.ensures (sym c.if-not-has_form.ensures))

pub returns : goal.returns
returns c =
    let l = c.loop-stream in
    sym (sym l.invariant.left ∙ formed_ends c.args.terms.now l.stream l.invariant.of (sym c.advance.ensures.more ∙ c.loop-stream-test.false) c.args.kind)
