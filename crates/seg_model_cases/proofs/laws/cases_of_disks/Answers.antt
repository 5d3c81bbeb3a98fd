use Rattle.seg_model_cases.proofs.Files.{disk_cases}
use Rattle.seg_model_cases.proofs.laws.cases_of_disks.Goals as goal

pub returns : goal.returns
returns c = disk_cases
