use Rattle.seg_segment.proofs.SpelledFiles.{held_spells}
use Rattle.seg_segment.proofs.laws.held_files_spell.Goals as goal

pub returns : goal.returns
returns c = held_spells
