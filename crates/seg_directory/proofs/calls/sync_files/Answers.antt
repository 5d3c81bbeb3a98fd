use Rattle.seg_directory.proofs.StepSequences.{went}
use Rattle.seg_directory.proofs.SingleSteps.{call_failed}
use Rattle.seg_directory.proofs.calls.sync_files.Goals as goal

pub returns-in-Ok-clause-does : goal.returns-in-Ok-clause-does
returns-in-Ok-clause-does g c = went c.in-Ok.ensures

pub returns-in-Err-clause-does : goal.returns-in-Err-clause-does
returns-in-Err-clause-does g c = call_failed c.in-Err.ensures c.call_error.ensures
