use Rattle.seg_model.proofs.DocumentsOfTerms.{postings_tell_terms}
use Rattle.seg_model.proofs.removal_laws.postings_tell_terms.Goals as goal

pub returns : goal.returns
returns c = postings_tell_terms
