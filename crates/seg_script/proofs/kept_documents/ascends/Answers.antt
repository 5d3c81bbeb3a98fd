use Rattle.std.proofs.Common.{sym, ◌∙◌, arith, ◌+◌, drop}
use Rattle.seg_script.proofs.AscendingNumbers.{ascends_from, ascends-all, ascends_from-drop, not_least, from_least}
use Rattle.seg_script.proofs.kept_documents.ascends.Goals as goal

pub loop-number-init : goal.loop-number-init
loop-number-init c = ascends-all c.args.numbers.now

pub returns-then-from-least : goal.returns-then-from-least
returns-then-from-least c =
    let rest = ascends_from (c.from.result + 1) (drop (c.loop-number.number-index + 1) c.args.numbers.now) in
    sym (sym c.loop-number.invariant ∙ ascends_from-drop c.loop-number.least c.args.numbers.now c.loop-number.number-index c.from.result c.loop-number-test.true c.from.ensures
    ∙ not_least c.loop-number.least c.from.result rest c.if-from-least.true)

pub loop-number-preserved : goal.loop-number-preserved
loop-number-preserved c =
    let rest = ascends_from (c.from-least.result + 1) (drop (c.loop-number.number-index + 1) c.args.numbers.now) in
    sym (sym c.loop-number.invariant ∙ ascends_from-drop c.loop-number.least c.args.numbers.now c.loop-number.number-index c.from-least.result c.loop-number-test.true c.from-least.ensures
    ∙ from_least c.loop-number.least c.from-least.result rest (omega (arith, c.if-from-least.false, c.from.ensures, c.from-least.ensures)))
