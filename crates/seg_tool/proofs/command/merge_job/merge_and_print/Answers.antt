use Rattle.std.proofs.Common.{refl}
use Rattle.seg_index_build.specs.TwoDirectories.{goes_on, stops}
use Rattle.seg_tool.proofs.ReadingSteps.{from_nothing}
use Rattle.seg_tool.proofs.command.merge_job.merge_and_print.Goals as goal

pub returns-in-Err : goal.returns-in-Err
returns-in-Err g c = stops c.in-Err.e refl c.in-Err.ensures

pub returns : goal.returns
returns g c = goes_on c.in-Ok.index _ c.in-Ok.ensures (from_nothing c.new.ensures.items c.print_index.ensures, refl)
