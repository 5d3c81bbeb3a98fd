use Rattle.std.proofs.Common.{arith}
use Rattle.seg_columns.proofs.TermOrder.{is_next, one_more}
use Rattle.seg_columns.proofs.dictionary_check.terms_ascend.Goals as goal

pub loop-place-init : goal.loop-place-init
loop-place-init c = λ i lt. absurd (omega (arith, lt))

pub returns-then-not-is_below : goal.returns-then-not-is_below
returns-then-not-is_below c = λ ascend.
    c.if-not-is_below.ensures
    (is_next c.args.bytes.now c.loop-place.place _ _ (omega arith)
    (omega (arith, c.requires.count)) c.term_at.ensures c.term_at-in-loop-place.ensures ascend)

pub loop-place-preserved : goal.loop-place-preserved
loop-place-preserved c =
    one_more c.args.bytes.now c.loop-place.place _ _
    (omega arith) c.loop-place.invariant c.term_at.ensures c.term_at-in-loop-place.ensures
    c.if-not-is_below.ensures

pub returns : goal.returns
returns c = λ i lt. c.loop-place.invariant i (omega (arith, lt, c.requires.count))
