use Rattle.seg_termdict.proofs.MergedTerms.{merged_terms_answer}
use Rattle.seg_termdict.proofs.laws.merged_terms_are_known_by_their_answers.Goals as goal

pub returns : goal.returns
returns g c = merged_terms_answer _
