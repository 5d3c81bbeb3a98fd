use Rattle.seg_index_build.proofs.UniqueParts.{determined}
use Rattle.seg_index_build.proofs.laws.answers_determine_parts.Goals as goal

pub returns : goal.returns
returns c = determined c.files_spell_one_contents.ensures
