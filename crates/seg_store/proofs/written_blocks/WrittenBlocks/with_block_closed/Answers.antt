use Rattle.std.proofs.Common.{◌≡◌, ◌++◌, length, sym, ap, subst, ◌∙◌, arith, w32, w64}
use Rattle.std.specs.List.{flat_map}
use Rattle.std.specs.Int.{to_le_bytes}
use Rattle.seg_store.specs.WriterBlocks.{with_closed}
use Rattle.seg_store.specs.WriterBuffers.{Buffers, taken_of, IsKept}
use Rattle.seg_store.proofs.KeptBlocks.{is_closed, closed_at}
use Rattle.seg_store.proofs.written_blocks.WrittenBlocks.with_block_closed.Goals as goal

pub returns : goal.returns
returns c =
    let inside = c.blocks-2.inside in
    let b : Buffers = record { bytes = inside.bytes.items; checkpoints = inside.checkpoints.items; start = inside.start; ends = inside.ends.items; documents = inside.documents; stored = inside.stored; block_size = inside.block_size } in
    let kept : IsKept b = subst IsKept (sym c.blocks-2.view_is) c.requires.kept in
    let ends_are = ap (λ (x : Buffers). x.ends) c.blocks-2.view_is in
    let count : c.len-count.result ≡ length inside.ends.items = omega (arith, c.len-count.ensures, inside.ends.ok.0) in
    let ends : c.put_ends.new.out.items ≡ inside.bytes.items ++ flat_map (to_le_bytes w64) inside.ends.items = c.in_ok-put_ends.ensures ∙ ap (λ es. inside.bytes.items ++ flat_map (to_le_bytes w64) es) c.deref.ensures.value in
    let written : c.put_u32.new.out.items ≡ (inside.bytes.items ++ flat_map (to_le_bytes w64) inside.ends.items) ++ to_le_bytes w32 (length inside.ends.items) = c.in_ok-put_u32.ensures.ok ∙ (λ i. ends i ++ to_le_bytes w32 (count i)) in
    let is = is_closed b c.put_u32.new.out.items c.len.result kept (λ none. c.requires.some (sym ends_are ∙ none)) (omega arith) written (omega (arith, c.len.ensures, c.put_u32.new.out.ok.0)) in
    let same : closed_at b c.put_u32.new.out.items c.len.result ≡ record { bytes = c.put_u32.new.out.items; checkpoints = c.push.new.self.items; start = c.len.result; ends = c.clear.new.self.items; documents = inside.documents; stored = inside.stored; block_size = inside.block_size } = λ i. record { bytes = c.put_u32.new.out.items; checkpoints = sym c.in_ok-push.ensures.items i; start = c.len.result; ends = sym c.clear.ensures.items i; documents = inside.documents; stored = inside.stored; block_size = inside.block_size } in
    record {
      kept = subst IsKept same is.kept;
      closed = sym (ap taken_of same) ∙ is.taken ∙ ap (λ (x : Buffers). with_closed (taken_of x)) c.blocks-2.view_is;
      none = c.clear.ensures.items;
    }
