use Rattle.std.proofs.Common.{[], arith}
use Rattle.std.specs.Prelude.{IsUtf8}
use Rattle.std.proofs.lemmas.List.Elements.{All-from_get_or}
use Rattle.seg_columns.proofs.TermParts.{more_utf8, utf8_at}
use Rattle.seg_columns.proofs.str_column.are_utf8.Goals as goal

pub returns-then-not-is_utf8 : goal.returns-then-not-is_utf8
returns-then-not-is_utf8 c = λ all.
    c.if-not-is_utf8.ensures (utf8_at c.args.dictionary.now c.loop-place.place c.term.result.now all c.term.ensures)

pub loop-place-preserved : goal.loop-place-preserved
loop-place-preserved c =
    more_utf8 c.args.dictionary.now c.loop-place.place c.term.result.now c.term.ensures c.if-not-is_utf8.ensures
    c.loop-place.invariant

pub returns : goal.returns
returns c =
    All-from_get_or IsUtf8 c.args.dictionary.now []
    (λ i lt. c.loop-place.invariant i (omega (arith, lt, c.loop-place-test.false, c.num_terms-place-end.ensures)))
