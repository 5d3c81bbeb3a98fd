use Rattle.seg_build.proofs.WritableTerms as terms
use Rattle.seg_build.proofs.laws.taken_terms_can_be_written.Goals as goal

pub returns : goal.returns
returns c = terms.taken_terms_can_be_written
