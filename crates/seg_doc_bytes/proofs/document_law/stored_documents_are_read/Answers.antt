use Rattle.seg_doc_bytes.proofs.ReadDocuments.{is_read_back}
use Rattle.seg_doc_bytes.proofs.document_law.stored_documents_are_read.Goals as goal

pub returns : goal.returns
returns c = is_read_back
