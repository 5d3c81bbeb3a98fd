use Rattle.std.proofs.Common.{[], refl}
use Rattle.seg_directory.proofs.Exports.{answers, stops}
use Rattle.seg_build.specs.FinishedFiles.{fails}
use Rattle.seg_build.proofs.FinalizedFiles.{finishes}
use Rattle.seg_build.proofs.finished_segment.finish.Goals as goal

pub returns-in-Err-clause-does : goal.returns-in-Err-clause-does
returns-in-Err-clause-does g c = fails c.in-Err.e c.in-Err.ensures.fails refl refl

pub returns-in-Ok-write-clause-does : goal.returns-in-Ok-write-clause-does
returns-in-Ok-write-clause-does g c = finishes c.in-Ok.ensures.made c.id-id.ensures (answers c.in-Ok-write.ensures)

pub returns-in-Err-write-clause-does : goal.returns-in-Err-write-clause-does
returns-in-Err-write-clause-does g c = finishes c.in-Ok.ensures.made c.id-id.ensures (stops [] c.in-Err-write.ensures)
