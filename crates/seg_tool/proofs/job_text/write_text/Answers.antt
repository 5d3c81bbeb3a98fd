use Rattle.std.proofs.Common.{refl}
use Rattle.seg_tool.specs.Runs.{failed, written}
use Rattle.seg_tool.proofs.job_text.write_text.Goals as goal

pub returns-in-Ok : goal.returns-in-Ok
returns-in-Ok g c = written refl c.in-Ok.ensures.ok c.in-Ok.ensures.cause.later

pub returns-in-Err : goal.returns-in-Err
returns-in-Err g c = failed refl c.in-Err.ensures.err c.in-Err.ensures.cause.failed c.in-Err.ensures.cause.later
