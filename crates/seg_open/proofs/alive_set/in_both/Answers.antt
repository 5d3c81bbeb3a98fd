use Rattle.seg_open.proofs.DocumentMarks.{cut_none, cut_some}
use Rattle.seg_open.proofs.alive_set.in_both.Goals as goal

pub returns-in_default-alive : goal.returns-in_default-alive
returns-in_default-alive c documents alive custom =
    cut_none documents c.args.alive c.args.custom c.in-Some.custom c.in_default-alive.is c.in-Some.is custom

pub returns-in-Ok : goal.returns-in-Ok
returns-in-Ok c documents alive custom =
    cut_some documents c.args.alive c.args.custom c.in-Some-alive.alive c.in-Some.custom c.in-Ok.both c.in-Some-alive.is c.in-Some.is c.in-Ok.ensures.ok alive custom
