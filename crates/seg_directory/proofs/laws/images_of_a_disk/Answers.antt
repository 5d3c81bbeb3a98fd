use Rattle.seg_directory.proofs.PendingImages.{untouched_names_stay}
use Rattle.seg_directory.proofs.laws.images_of_a_disk.Goals as goal

pub returns-clause-untouched : goal.returns-clause-untouched
returns-clause-untouched g c = untouched_names_stay _
