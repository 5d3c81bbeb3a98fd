use Rattle.seg_batches.proofs.SkipSteps.{skipped_is_first}
use Rattle.seg_batches.proofs.queue_laws.skipping_finds_the_first.Goals as goal

pub returns : goal.returns
returns g c = λ target operations position inside. skipped_is_first target operations position inside
