use Rattle.std.proofs.Common.{◌≡◌, rules}
use Rattle.seg_store.specs.WriterBlocks.{with_all_closed, with_closed}
use Rattle.seg_store.specs.WriterBuffers.{Buffers, taken_of}
use Rattle.seg_store.proofs.KeptBlocks.{all_closed, if_ok}
use Rattle.seg_store.proofs.written_blocks.WrittenBlocks.with_all_closed.Goals as goal

pub returns-clause-closed : goal.returns-clause-closed
returns-clause-closed c =
    if_ok (λ (w : Buffers). taken_of w ≡ with_closed (taken_of c.args.self)) (λ (w : Buffers). taken_of w ≡ with_all_closed (taken_of c.args.self)) c.with_block_closed.result
    (λ w is. all_closed c.args.self (taken_of w) (search rules) is) c.with_block_closed.ensures.closed
