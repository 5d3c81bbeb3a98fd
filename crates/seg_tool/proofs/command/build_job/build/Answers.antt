use Rattle.std.proofs.Common.{Err, Ok, ap, refl}
use Rattle.seg_tool.specs.Runs.{no_memory, no_script, of_input}
use Rattle.seg_tool.proofs.command.build_job.build.Goals as goal

pub returns-in-Err-NotScript : goal.returns-in-Err-NotScript
returns-in-Err-NotScript g c = no_script refl (c.in-Err-NotScript.ensures.not_script (ap Err c.in-Err-NotScript.field-0-is)) refl

pub returns-in-Err-OutOfMemory : goal.returns-in-Err-OutOfMemory
returns-in-Err-OutOfMemory g c = no_memory refl refl

pub returns-in-Ok-build_and_print : goal.returns-in-Ok-build_and_print
returns-in-Ok-build_and_print g c =
    of_input c.in-Ok.input c.in-Ok.ensures.ok (record { answer = Ok c.in-Ok-build_and_print.text.items; is = refl; does_so = c.in-Ok-build_and_print.ensures })

pub returns-in-Err : goal.returns-in-Err
returns-in-Err g c =
    of_input c.in-Ok.input c.in-Ok.ensures.ok (record { answer = Err c.in-Err.e; is = ap Err c.status_of.ensures; does_so = c.in-Err.ensures })
