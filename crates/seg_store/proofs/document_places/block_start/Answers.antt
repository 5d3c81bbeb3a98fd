use Rattle.std.proofs.Common.{◌-◌, arith}
use Rattle.seg_store.proofs.DocumentPlaces.{start_of_block}
use Rattle.seg_store.proofs.document_places.block_start.Goals as goal

pub returns : goal.returns
returns c n le = start_of_block n c.args.table.now (c.args.index - 1) c.args.index c.checkpoint_at.result.byte_end (omega (arith, c.if-index-eq0.false)) (omega (arith, c.if-index-eq0.false, le)) c.checkpoint_at.ensures.byte_end
