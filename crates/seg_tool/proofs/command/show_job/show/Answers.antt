use Rattle.std.proofs.Common.{refl}
use Rattle.seg_tool.proofs.ReadingSteps.{from_nothing}
use Rattle.seg_tool.proofs.command.show_job.show.Goals as goal

pub returns : goal.returns
returns g c output = (from_nothing c.new.ensures.items c.print_index.ensures, refl)
