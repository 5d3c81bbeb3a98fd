use Rattle.std.proofs.Common.{[]}
use Rattle.seg_directory.proofs.Exports.{answers, stops}
use Rattle.seg_batches.proofs.written_batches.write_made.Goals as goal

pub returns-in-Ok-clause-works : goal.returns-in-Ok-clause-works
returns-in-Ok-clause-works g c = answers c.in-Ok.ensures

pub returns-clause-works : goal.returns-clause-works
returns-clause-works g c = stops [] c.in-Err.ensures
