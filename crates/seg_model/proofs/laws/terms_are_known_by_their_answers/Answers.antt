use Rattle.seg_model.proofs.Answers.{terms_answer, no_other_terms}
use Rattle.seg_model.proofs.laws.terms_are_known_by_their_answers.Goals as goal

pub returns : goal.returns
returns c = record { answers = terms_answer; only = no_other_terms }
