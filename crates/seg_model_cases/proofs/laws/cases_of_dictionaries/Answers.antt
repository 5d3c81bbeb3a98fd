use Rattle.seg_model_cases.proofs.Dictionaries.{dictionary_cases}
use Rattle.seg_model_cases.proofs.laws.cases_of_dictionaries.Goals as goal

pub returns : goal.returns
returns c = dictionary_cases
