use Rattle.seg_tool.specs.PrintedIndex.{all_of_one}
use Rattle.seg_tool.proofs.ReadingSteps.{starved_open}
use Rattle.seg_tool.proofs.printed_index.print_next.Goals as goal

pub returns-in-Ok-push_segment : goal.returns-in-Ok-push_segment
returns-in-Ok-push_segment g c = (c.in-Ok.reader, c.in-Ok-push_segment.ensures, c.in-Ok.ensures.does)

pub returns : goal.returns
returns g c = starved_open (all_of_one c.args.segment.now) c.in-Ok.reader _ _ c.in-Ok.ensures.does
