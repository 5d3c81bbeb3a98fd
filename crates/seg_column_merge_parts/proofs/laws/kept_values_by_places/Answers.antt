use Rattle.seg_column_merge_parts.proofs.KeptValueTests.{any_kept}
use Rattle.seg_column_merge_parts.proofs.laws.kept_values_by_places.Goals as goal

pub returns : goal.returns
returns c = λ p file rows counts places kept are long. any_kept p file rows counts places kept are long
