use Rattle.std.proofs.Common.{[], ◌∷◌}
use Rattle.seg_directory.proofs.Exports.{stops, then_does}
use Rattle.seg_directory.specs.Calls.{synced}
use Rattle.seg_directory.specs.DirectorySteps.{calls}
use Rattle.seg_index_build.proofs.index_files.save_index.Goals as goal

pub returns-in-Ok : goal.returns-in-Ok
returns-in-Ok g c = then_does c.in-Ok.ensures.does c.sync_files.ensures.does

pub returns-in-Err : goal.returns-in-Err
returns-in-Err g c = stops (calls synced ∷ []) c.in-Err.ensures.does
