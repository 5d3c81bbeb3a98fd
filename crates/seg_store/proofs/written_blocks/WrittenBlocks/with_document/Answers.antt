use Rattle.std.proofs.Common.{◌≡◌, List, ℕ, take, drop, ap, ◌∙◌, arith}
use Rattle.std.proofs.lemmas.List.{take_at, drop_at}
use Rattle.seg_values.specs.StoredBytes.{stored_form}
use Rattle.seg_store.specs.WriterBlocks.{with_document}
use Rattle.seg_store.specs.WriterBuffers.{Buffers, taken_of}
use Rattle.seg_store.proofs.KeptBlocks.{if_ok}
use Rattle.seg_store.proofs.written_blocks.WrittenBlocks.with_document.Goals as goal

pub returns-clause-more : goal.returns-clause-more
returns-clause-more c =
    let inside = c.blocks-2.inside in
    let before = inside.bytes.items in
    let form = stored_form c.args.schema.now c.args.document.now in
    let n = c.len-before.result in
    let all = c.put_document.new.out.items in
    let document : drop n all ≡ form = ap (drop n) c.in_ok-put_document.ensures.form ∙ drop_at before form n (omega (arith, c.len-before.ensures, inside.bytes.ok.0)) in
    let was : take n all ≡ before = ap (take n) c.in_ok-put_document.ensures.form ∙ take_at before form n (omega (arith, c.len-before.ensures, inside.bytes.ok.0)) in
    let at : List ℕ → Buffers = λ (bytes : List ℕ). record { bytes = bytes; checkpoints = inside.checkpoints.items; start = inside.start; ends = inside.ends.items; documents = inside.documents; stored = inside.stored; block_size = inside.block_size } in
    let same : with_document (drop n all) (taken_of (at (take n all))) ≡ with_document form (taken_of (at before)) = λ i. with_document (document i) (taken_of (at (was i))) in
    let self : with_document form (taken_of (at before)) ≡ with_document form (taken_of c.args.self) = ap (λ (b : Buffers). with_document form (taken_of b)) c.blocks-2.view_is in
    if_ok (λ (w : Buffers). taken_of w ≡ with_document (drop n all) (taken_of (at (take n all)))) (λ (w : Buffers). taken_of w ≡ with_document form (taken_of c.args.self)) c.with_end.result
    (λ w more. more ∙ same ∙ self) c.with_end.ensures.more
