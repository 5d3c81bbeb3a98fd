use Rattle.seg_index_build.specs.MergedIndices.{asked_of_index}
use Rattle.seg_index_build.proofs.SourceTurns.{runs_out}
use Rattle.seg_index_build.proofs.source_readers.open_more.Goals as goal

pub returns-in-Ok-append : goal.returns-in-Ok-append
returns-in-Ok-append g c = (c.in-Ok.opened.items, c.in-Ok-append.ensures, c.in-Ok.ensures)

pub returns-in-Err-append : goal.returns-in-Err-append
returns-in-Err-append g c = runs_out (asked_of_index c.args.index.now) c.in-Ok.opened.items _ _ c.in-Ok.ensures
