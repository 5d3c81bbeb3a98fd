use Rattle.seg_meta.specs.MetaMeaning.{settings_of}
use Rattle.seg_index_build.proofs.FinishSteps.{alive_ends, alive_saved}
use Rattle.seg_index_build.proofs.work_index.finish_work_index.Goals as goal

pub returns-in-Err-clause-does : goal.returns-in-Err-clause-does
returns-in-Err-clause-does g c =
    alive_ends (settings_of c.args.settings.now) c.args.schema.now c.args.stamp c.args.segments.now c.in-Err.e
    c.in-Err.ensures.does

pub returns-clause-does : goal.returns-clause-does
returns-clause-does g c =
    alive_saved (settings_of c.args.settings.now) c.args.schema.now c.args.stamp c.args.segments.now
    c.save_work_index.result c.in-Ok.ensures.does c.save_work_index.ensures.works
