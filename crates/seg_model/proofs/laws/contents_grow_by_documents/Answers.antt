use Rattle.seg_model.proofs.AddedDocuments.{postings_grow, columns_grow}
use Rattle.seg_model.proofs.laws.contents_grow_by_documents.Goals as goal

pub returns : goal.returns
returns c = record { postings = postings_grow; columns = columns_grow }
