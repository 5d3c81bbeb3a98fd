use Rattle.seg_script_values.proofs.FacetTexts.{paths_are_facets}
use Rattle.seg_script_values.proofs.laws.paths_are_facets.Goals as goal

pub returns : goal.returns
returns c = paths_are_facets
