use Rattle.std.proofs.Common.{◌-◌, arith}
use Rattle.seg_store.proofs.DocumentPlaces.{start_of_document}
use Rattle.seg_store.proofs.document_places.document_start.Goals as goal

pub returns : goal.returns
returns c n le = start_of_document n c.args.ends.now (c.args.index - 1) c.args.index c.document_end.result (omega (arith, c.if-index-eq0.false)) (omega (arith, c.if-index-eq0.false, le)) c.document_end.ensures
