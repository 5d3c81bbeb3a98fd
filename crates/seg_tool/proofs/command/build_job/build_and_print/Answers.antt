use Rattle.std.proofs.Common.{refl}
use Rattle.seg_values.specs.declared.error.TantivyError.TheVariants.{OutOfMemory}
use Rattle.seg_index_build.specs.TwoDirectories.{goes_on, stops}
use Rattle.seg_tool.specs.Printing.{opening}
use Rattle.seg_tool.proofs.ReadingSteps.{from_front, not_begun}
use Rattle.seg_tool.proofs.command.build_job.build_and_print.Goals as goal

pub returns-in-Err : goal.returns-in-Err
returns-in-Err g c = stops c.in-Err.e refl c.in-Err.ensures

pub returns-in_default : goal.returns-in_default
returns-in_default g c = goes_on c.in-Ok.index _ c.in-Ok.ensures (stops OutOfMemory refl (not_begun (opening c.args.detail) _ c.args.detail _, refl))

pub returns-in-Err-print_index : goal.returns-in-Err-print_index
returns-in-Err-print_index g c =
    goes_on c.in-Ok.index _ c.in-Ok.ensures
    (stops c.in-Err-print_index.e refl (from_front c.in-Ok-opening.ensures c.in-Err-print_index.ensures, refl))

pub returns : goal.returns
returns g c =
    goes_on c.in-Ok.index _ c.in-Ok.ensures
    (goes_on c.in-Ok-print_index.out.items _ (from_front c.in-Ok-opening.ensures c.in-Ok-print_index.ensures, refl) (c.print_index-2.ensures, refl))
