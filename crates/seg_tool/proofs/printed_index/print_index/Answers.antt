use Rattle.std.proofs.Common.{◌∙◌, refl}
use Rattle.seg_open.specs.Answers.{seen_as}
use Rattle.seg_tool.specs.PrintedIndex.{not_loaded}
use Rattle.seg_tool.proofs.ReadingSteps.{listed, unlisted}
use Rattle.seg_tool.proofs.printed_index.print_index.Goals as goal

pub returns-in_default : goal.returns-in_default
returns-in_default g c = unlisted c.args.out.items c.args.label.now c.args.detail c.in-Ok.index _ _ c.in-Ok.ensures.does

pub returns-in-Err : goal.returns-in-Err
returns-in-Err g c = not_loaded c.in-Err.e refl c.in-Err.ensures.does

pub returns : goal.returns
returns g c = listed c.args.out.items c.args.label.now c.args.detail c.in-Ok.index _ _ c.in-Ok.ensures.does c.deref.result.now (seen_as (λ t. t.items) c.print_segments.result) _ (c.deref.ensures.value ∙ c.in-Ok-searchable_segments.ensures.ok) c.print_segments.ensures
