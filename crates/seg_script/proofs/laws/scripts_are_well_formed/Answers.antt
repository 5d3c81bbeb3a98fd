use Rattle.seg_script.proofs.WellFormedScripts.{scripts_are_well_formed}
use Rattle.seg_script.proofs.laws.scripts_are_well_formed.Goals as goal

pub returns : goal.returns
returns c = scripts_are_well_formed
