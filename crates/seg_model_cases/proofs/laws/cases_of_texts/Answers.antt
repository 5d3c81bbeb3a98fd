use Rattle.seg_model_cases.proofs.Texts.{text_cases}
use Rattle.seg_model_cases.proofs.laws.cases_of_texts.Goals as goal

pub returns : goal.returns
returns c = text_cases
