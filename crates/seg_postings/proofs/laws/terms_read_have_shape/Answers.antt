use Rattle.seg_postings.proofs.KeptTerms.{read_have_shape}
use Rattle.seg_postings.proofs.laws.terms_read_have_shape.Goals as goal

pub returns : goal.returns
returns c = read_have_shape
