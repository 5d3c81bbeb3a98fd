use Rattle.std.proofs.Common.{◌∙◌, ap, arith, length, sym}
use Rattle.seg_open.proofs.DocumentMarks.{next_left}
use Rattle.seg_open.proofs.alive_docs.AliveDocsIterator.next.Goals as goal

pub returns-clause-steps : goal.returns-clause-steps
returns-clause-steps c =
    sym c.self.view_is ∙ next_left c.self.inside.set c.self.inside.next c.self.inside.end c.in_default.is (omega (arith, c.if-self.false))

pub returns-clause-goes : goal.returns-clause-goes
returns-clause-goes c =
    let shorter = ap length (returns-clause-steps c) in
    record { on = λ finite. (tt, tt, omega (arith, shorter)); keeps = tt; rests = λ finite. tt }
