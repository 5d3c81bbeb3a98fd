use Rattle.std.proofs.Common.{◌≤◌, arith, length}
use Rattle.seg_terms.proofs.OccurrenceRuns.{IsFirstRun-from}
use Rattle.seg_terms.proofs.runs.first_run.Goals as goal

pub returns-then-hit-document : goal.returns-then-hit-document
returns-then-hit-document c = IsFirstRun-from _ _ _ c.requires (omega arith) c.loop-i.invariant
    (λ _. c.if-hit-document.true)

pub returns : goal.returns
returns c =
    let all : length c.args.hits.now ≤ c.loop-i.i = omega arith in
    IsFirstRun-from c.args.hits.now (length c.args.hits.now) (record { document = 0; position = 0 }) c.requires
    (omega arith) (λ k e lt. c.loop-i.invariant k e (omega arith)) (λ lt. absurd (omega arith))
