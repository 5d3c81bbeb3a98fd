use Rattle.std.proofs.Common.{◌≡◌, length, ap, ◌∙◌, arith}
use Rattle.seg_store.specs.WriterBlocks.{with_closed, closed_if_full}
use Rattle.seg_store.specs.WriterBuffers.{Buffers, taken_of}
use Rattle.seg_store.proofs.KeptBlocks.{not_full, is_full, if_ok}
use Rattle.seg_store.proofs.written_blocks.WrittenBlocks.with_full_block_closed.Goals as goal

pub returns-then-len-self-clause-closed : goal.returns-then-len-self-clause-closed
returns-then-len-self-clause-closed c =
    let bytes = ap (λ (b : Buffers). length b.bytes) c.self.view_is in
    let start = ap (λ (b : Buffers). b.start) c.self.view_is in
    let size = ap (λ (b : Buffers). b.block_size) c.self.view_is in
    not_full c.args.self c.requires.kept (omega (arith, bytes, start, size, c.len.ensures, c.self.inside.bytes.ok.0))

pub returns-clause-closed : goal.returns-clause-closed
returns-clause-closed c =
    let bytes = ap (λ (b : Buffers). length b.bytes) c.self.view_is in
    let start = ap (λ (b : Buffers). b.start) c.self.view_is in
    let size = ap (λ (b : Buffers). b.block_size) c.self.view_is in
    if_ok (λ (w : Buffers). taken_of w ≡ with_closed (taken_of c.args.self)) (λ (w : Buffers). taken_of w ≡ closed_if_full (taken_of c.args.self)) c.with_block_closed.result
    (λ w is. is ∙ is_full c.args.self c.requires.kept (omega (arith, bytes, start, size, c.len.ensures, c.self.inside.bytes.ok.0))) c.with_block_closed.ensures.closed
