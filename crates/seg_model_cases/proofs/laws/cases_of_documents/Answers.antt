use Rattle.seg_model_cases.proofs.Documents.{document_cases}
use Rattle.seg_model_cases.proofs.laws.cases_of_documents.Goals as goal

pub returns : goal.returns
returns c = document_cases
