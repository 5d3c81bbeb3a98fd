use Rattle.std.proofs.lemmas.Result.{err_from_is_err_and}
use Rattle.seg_access.proofs.document_deserialize.BTreeMapFieldOwnedValueDocumentDeserialize.from_pieces.Goals as goal

pub returns-in_err-document-clause-err : goal.returns-in_err-document-clause-err
returns-in_err-document-clause-err c =
    let p = err_from_is_err_and c.from_residual.result c.from_residual.ensures.1 in
    rw (p.1, p.2) c.in_err-document.ensures.err

pub returns-clause-ok : goal.returns-clause-ok
returns-clause-ok c = (c.in_ok-document.document, c.in_ok-document.ensures.ok, c.in_ok-map.ensures)
