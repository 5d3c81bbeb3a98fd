use Rattle.std.proofs.Common.{◌≡◌, ◌++◌, [], ◌∷◌, Some, length, sym, ap, subst, ◌∙◌, arith, w32}
use Rattle.std.specs.List.{flat_map}
use Rattle.std.specs.Int.{to_le_bytes}
use Rattle.seg_store.specs.Store.{store_of}
use Rattle.seg_store.specs.WriterBlocks.{Taken}
use Rattle.seg_store.specs.WriterBuffers.{Buffers, taken_of, IsKept, checkpoint_form}
use Rattle.seg_store.proofs.Stores.{store_form}
use Rattle.seg_store.proofs.KeptBlocks.{file_read}
use Rattle.seg_store.proofs.written_blocks.WrittenBlocks.close.Goals as goal

pub returns : goal.returns
returns c =
    let inside = c.blocks-2.inside in
    let b : Buffers = record { bytes = inside.bytes.items; checkpoints = inside.checkpoints.items; start = inside.start; ends = inside.ends.items; documents = inside.documents; stored = inside.stored; block_size = inside.block_size } in
    let kept : IsKept b = subst IsKept (sym c.blocks-2.view_is) c.in_ok-blocks.ensures.kept in
    let none : b.ends ≡ [] = ap (λ (x : Buffers). x.ends) c.blocks-2.view_is ∙ c.in_ok-blocks.ensures.none in
    let closed = ap (λ (x : Buffers). (taken_of x).closed) c.blocks-2.view_is ∙ ap (λ (t : Taken). t.closed) c.in_ok-blocks.ensures.closed in
    let table : c.put_checkpoints.new.out.items ≡ inside.bytes.items ++ flat_map checkpoint_form inside.checkpoints.items = c.in_ok-put_checkpoints.ensures ∙ ap (λ cs. inside.bytes.items ++ flat_map checkpoint_form cs) c.deref.ensures.value in
    let count : c.len.result ≡ length inside.checkpoints.items = omega (arith, c.len.ensures, inside.checkpoints.ok.0) in
    let counted : c.put_u32.new.out.items ≡ (inside.bytes.items ++ flat_map checkpoint_form inside.checkpoints.items) ++ to_le_bytes w32 (length inside.checkpoints.items) = c.in_ok-put_u32.ensures.ok ∙ (λ i. table i ++ to_le_bytes w32 (count i)) in
    let numbered : c.put_u32-2.new.out.items ≡ ((inside.bytes.items ++ flat_map checkpoint_form inside.checkpoints.items) ++ to_le_bytes w32 (length inside.checkpoints.items)) ++ to_le_bytes w32 inside.documents = c.in_ok-put_u32-2.ensures.ok ∙ ap (λ xs. xs ++ to_le_bytes w32 inside.documents) counted in
    let all : c.push.new.self.items ≡ store_form inside.bytes.items inside.checkpoints.items inside.documents = c.in_ok-push.ensures.items ∙ ap (λ xs. xs ++ 0 ∷ []) numbered in
    ap store_of all ∙ file_read b kept none (omega arith) ∙ ap Some closed
