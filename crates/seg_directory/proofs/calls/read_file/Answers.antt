use Rattle.std.proofs.Common.{[]}
use Rattle.seg_directory.proofs.StepSequences.{went, for_ok}
use Rattle.seg_directory.proofs.SingleSteps.{call_failed}
use Rattle.seg_directory.proofs.calls.read_file.Goals as goal

pub returns-in-Ok-clause-does : goal.returns-in-Ok-clause-does
returns-in-Ok-clause-does g c = for_ok (went c.in-Ok.ensures)

pub returns-in-Err-clause-does : goal.returns-in-Err-clause-does
returns-in-Err-clause-does g c = record { does = ([], call_failed c.in-Err.ensures c.call_error.ensures) }
