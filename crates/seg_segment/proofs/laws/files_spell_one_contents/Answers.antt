use Rattle.seg_segment.proofs.UniqueContents.{one_spelled}
use Rattle.seg_segment.proofs.laws.files_spell_one_contents.Goals as goal

pub returns : goal.returns
returns c = one_spelled
