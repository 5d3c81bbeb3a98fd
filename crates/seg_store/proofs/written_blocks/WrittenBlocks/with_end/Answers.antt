use Rattle.std.proofs.Common.{◌≡◌, ◌++◌, ◌-◌, ◌+◌, ◌∷◌, [], length, take, drop, sym, ap, subst, ◌∙◌, arith}
use Rattle.seg_store.specs.WriterBlocks.{closed_if_full, with_document}
use Rattle.seg_store.specs.WriterBuffers.{Buffers, taken_of, IsKept}
use Rattle.seg_store.proofs.KeptBlocks.{is_grown, short, if_ok}
use Rattle.seg_store.proofs.written_blocks.WrittenBlocks.with_end.Goals as goal

pub with_full_block_closed-requires-clause-kept : goal.with_full_block_closed-requires-clause-kept
with_full_block_closed-requires-clause-kept c =
    let inside = c.blocks-2.inside in
    let bytes = ap (λ (b : Buffers). length b.bytes) c.blocks-2.view_is in
    let start = ap (λ (b : Buffers). b.start) c.blocks-2.view_is in
    let end = c.len-end.result - inside.start in
    let size = c.len-end.result - c.args.before in
    let ends = c.in_ok-push.ensures.items ∙ ap (λ (b : Buffers). b.ends ++ end ∷ []) c.blocks-2.view_is in
    let is = is_grown c.args.self c.args.before size end c.push.new.self.items (omega (arith, bytes, c.len-end.ensures, inside.bytes.ok.0)) (omega (arith, bytes, start, c.len-end.ensures, inside.bytes.ok.0)) ends c.requires.kept c.requires.stored c.requires.few in
    subst (λ (b : Buffers). IsKept (record b { ends = c.push.new.self.items; documents = b.documents + 1; stored = b.stored + size })) (sym c.blocks-2.view_is) is.kept

pub returns-clause-more : goal.returns-clause-more
returns-clause-more c =
    let inside = c.blocks-2.inside in
    let bytes = ap (λ (b : Buffers). length b.bytes) c.blocks-2.view_is in
    let start = ap (λ (b : Buffers). b.start) c.blocks-2.view_is in
    let end = c.len-end.result - inside.start in
    let size = c.len-end.result - c.args.before in
    let ends = c.in_ok-push.ensures.items ∙ ap (λ (b : Buffers). b.ends ++ end ∷ []) c.blocks-2.view_is in
    let is = is_grown c.args.self c.args.before size end c.push.new.self.items (omega (arith, bytes, c.len-end.ensures, inside.bytes.ok.0)) (omega (arith, bytes, start, c.len-end.ensures, inside.bytes.ok.0)) ends c.requires.kept c.requires.stored c.requires.few in
    let grown = ap (λ (b : Buffers). closed_if_full (taken_of (record b { ends = c.push.new.self.items; documents = b.documents + 1; stored = b.stored + size }))) c.blocks-2.view_is in
    if_ok (λ (w : Buffers). taken_of w ≡ closed_if_full (taken_of (record { bytes = inside.bytes.items; checkpoints = inside.checkpoints.items; start = inside.start; ends = c.push.new.self.items; documents = inside.documents + 1; stored = inside.stored + size; block_size = inside.block_size })))
    (λ (w : Buffers). taken_of w ≡ with_document (drop c.args.before c.args.self.bytes) (taken_of (short c.args.self (take c.args.before c.args.self.bytes)))) c.with_full_block_closed.result
    (λ w closed. closed ∙ grown ∙ is.taken) c.with_full_block_closed.ensures.closed
