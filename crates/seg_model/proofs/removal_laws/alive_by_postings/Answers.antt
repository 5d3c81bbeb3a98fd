use Rattle.seg_model.proofs.AliveByPostings.{alive_by_postings}
use Rattle.seg_model.proofs.removal_laws.alive_by_postings.Goals as goal

pub returns : goal.returns
returns c = alive_by_postings
