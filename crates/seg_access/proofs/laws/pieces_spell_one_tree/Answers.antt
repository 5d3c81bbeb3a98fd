use Rattle.seg_access.proofs.SpelledTrees.{spelling_once}
use Rattle.seg_access.proofs.laws.pieces_spell_one_tree.Goals as goal

pub returns : goal.returns
returns c = spelling_once
