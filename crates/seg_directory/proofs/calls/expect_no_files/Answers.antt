use Rattle.std.proofs.Common.{arith}
use Rattle.seg_directory.proofs.StepSequences.{went}
use Rattle.seg_directory.proofs.SingleSteps.{call_failed, call_lists}
use Rattle.seg_directory.proofs.calls.expect_no_files.Goals as goal

pub returns-in-Ok-eq0 : goal.returns-in-Ok-eq0
returns-in-Ok-eq0 g c = went (rw c.in-Ok-eq0.field-0-test at c.in-Ok-eq0.ensures)

pub returns-in-Ok : goal.returns-in-Ok
returns-in-Ok g c = call_lists c.in-Ok.ensures (omega (arith, c.in-Ok.field-0-test.1))

pub returns-in-Err : goal.returns-in-Err
returns-in-Err g c = call_failed c.in-Err.ensures c.call_error.ensures
