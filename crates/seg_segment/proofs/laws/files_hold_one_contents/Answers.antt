use Rattle.seg_segment.proofs.SpelledFiles.{one_held}
use Rattle.seg_segment.proofs.laws.files_hold_one_contents.Goals as goal

pub returns : goal.returns
returns c = one_held
