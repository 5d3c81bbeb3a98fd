use Rattle.std.proofs.Common.{◌≡◌, ap, ◌∙◌, arith}
use Rattle.seg_store.specs.WriterBuffers.{Buffers, taken_of}
use Rattle.seg_store.specs.WriterBlocks.{with_stacked}
use Rattle.seg_store.proofs.KeptBlocks.{if_ok}
use Rattle.seg_store.proofs.StackedBlocks.{same_count, stacked_on_closed}
use Rattle.seg_store.proofs.written_blocks.WrittenBlocks.with_stacked.Goals as goal

pub with_blocks-requires-clause-few : goal.with_blocks-requires-clause-few
with_blocks-requires-clause-few c =
    let same = same_count c.args.self c.in_ok-closed.closed c.requires.kept c.in_ok-closed.ensures.kept c.in_ok-closed.ensures.closed in
    omega (arith, same, c.requires.few)

pub returns-clause-more : goal.returns-clause-more
returns-clause-more c =
    let blocks = c.args.reader.now in
    if_ok (λ (w : Buffers). taken_of w ≡ with_stacked blocks (taken_of c.in_ok-closed.closed)) (λ (w : Buffers). taken_of w ≡ with_stacked blocks (taken_of c.args.self)) c.with_blocks.result
    (λ w more. more ∙ ap (with_stacked blocks) c.in_ok-closed.ensures.closed ∙ stacked_on_closed blocks (taken_of c.args.self)) c.with_blocks.ensures.more
