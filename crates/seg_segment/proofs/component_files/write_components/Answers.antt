use Rattle.std.proofs.Common.{refl}
use Rattle.std.proofs.lemmas.List.{get_or_default}
use Rattle.seg_segment.proofs.MadeFiles.{one_more, ends_there}
use Rattle.seg_segment.proofs.component_files.write_components.Goals as goal

pub returns-in-Err : goal.returns-in-Err
returns-in-Err g c =
    ends_there c.args.id c.args.files.now c.args.components.now c.loop-component.component-index _ c.loop-component-test.true (get_or_default c.args.components.now c.loop-component.component-index _ _ c.loop-component-test.true) _ c.of_component.ensures c.loop-component.invariant c.in-Err.ensures.does

pub loop-component-preserved : goal.loop-component-preserved
loop-component-preserved g c =
    one_more c.args.id c.args.files.now c.args.components.now c.loop-component.component-index _ c.loop-component-test.true (get_or_default c.args.components.now c.loop-component.component-index _ _ c.loop-component-test.true) _ c.of_component.ensures c.loop-component.invariant c.in_default.ensures.does

pub loop-component-init : goal.loop-component-init
loop-component-init g c = record { on = (refl, tt) }
