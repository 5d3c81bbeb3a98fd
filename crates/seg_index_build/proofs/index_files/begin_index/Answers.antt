use Rattle.std.proofs.Common.{[]}
use Rattle.seg_directory.proofs.Exports.{answers, stops}
use Rattle.seg_meta.specs.MetaMeaning.{settings_of}
use Rattle.seg_index_build.proofs.PublishSteps.{begun_of}
use Rattle.seg_index_build.proofs.index_files.begin_index.Goals as goal

pub returns-in-Err : goal.returns-in-Err
returns-in-Err g c =
    begun_of (settings_of c.args.settings.now) c.share.result c.args.schema.now c.share.ensures
    (stops [] c.in-Err.ensures.does)

pub returns : goal.returns
returns g c =
    begun_of (settings_of c.args.settings.now) c.share.result c.args.schema.now c.share.ensures
    (answers c.in-Ok.ensures.does)
