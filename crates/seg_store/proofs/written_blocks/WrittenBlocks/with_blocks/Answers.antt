use Rattle.std.proofs.Common.{◌≡◌, ◌++◌, ◌+◌, ℕ, [], map, length, sym, ap, subst, ◌∙◌, arith}
use Rattle.std.proofs.lemmas.List.{length-append}
use Rattle.seg_store.specs.WriterBuffers.{Buffers, taken_of, IsKept}
use Rattle.seg_store.specs.Checkpoints.{checkpoints}
use Rattle.seg_store.specs.StackedBlocks.{shifted}
use Rattle.seg_store.specs.Store.{document_count}
use Rattle.seg_store.specs.WriterBlocks.{with_stacked}
use Rattle.seg_store.proofs.CheckpointLists.{blocks_size}
use Rattle.seg_store.proofs.StackedBlocks.{ends_here, is_stacked, stacked_on}
use Rattle.seg_store.proofs.written_blocks.WrittenBlocks.with_blocks.Goals as goal

pub push_checkpoints-requires-clause-small : goal.push_checkpoints-requires-clause-small
push_checkpoints-requires-clause-small c =
    let inside = c.blocks-2.inside in
    let b : Buffers = record { bytes = inside.bytes.items; checkpoints = inside.checkpoints.items; start = inside.start; ends = inside.ends.items; documents = inside.documents; stored = inside.stored; block_size = inside.block_size } in
    let kept : IsKept b = subst IsKept (sym c.blocks-2.view_is) c.requires.kept in
    let none : b.ends ≡ [] = ap (λ (x : Buffers). x.ends) c.blocks-2.view_is ∙ c.requires.none in
    let body = c.blocks-3.result.now in
    let size = blocks_size c.args.reader.now body c.blocks-3.ensures in
    let all = ap length c.in_ok-extend_from_slice.ensures.items ∙ length-append inside.bytes.items body in
    omega (arith, ends_here b kept none, size, all, c.extend_from_slice.new.self.ok.0)

pub overflow_add-blocks-2 : goal.overflow_add-blocks-2
overflow_add-blocks-2 c =
    let inside = c.blocks-2.inside in
    let b : Buffers = record { bytes = inside.bytes.items; checkpoints = inside.checkpoints.items; start = inside.start; ends = inside.ends.items; documents = inside.documents; stored = inside.stored; block_size = inside.block_size } in
    let kept : IsKept b = subst IsKept (sym c.blocks-2.view_is) c.requires.kept in
    let body = c.blocks-3.result.now in
    let size = blocks_size c.args.reader.now body c.blocks-3.ensures in
    let all = ap length c.in_ok-extend_from_slice.ensures.items ∙ length-append inside.bytes.items body in
    omega (arith, kept.counts.small, size, all, c.document_bytes.ensures, c.extend_from_slice.new.self.ok.0)

pub returns : goal.returns
returns c =
    let inside = c.blocks-2.inside in
    let b : Buffers = record { bytes = inside.bytes.items; checkpoints = inside.checkpoints.items; start = inside.start; ends = inside.ends.items; documents = inside.documents; stored = inside.stored; block_size = inside.block_size } in
    let blocks = c.args.reader.now in
    let body = c.blocks-3.result.now in
    let kept : IsKept b = subst IsKept (sym c.blocks-2.view_is) c.requires.kept in
    let none : b.ends ≡ [] = ap (λ (x : Buffers). x.ends) c.blocks-2.view_is ∙ c.requires.none in
    let documents : b.documents ≡ c.args.self.documents = ap (λ (x : Buffers). x.documents) c.blocks-2.view_is in
    let is = is_stacked b blocks body kept none c.blocks-3.ensures (omega (arith, documents, c.requires.few)) in
    let bytes : c.extend_from_slice.new.self.items ≡ inside.bytes.items ++ body = c.in_ok-extend_from_slice.ensures.items in
    let points : c.push_checkpoints.new.out.items ≡ inside.checkpoints.items ++ map (shifted inside.documents inside.start) (checkpoints blocks) = c.in_ok-push_checkpoints.ensures in
    let start : length (inside.bytes.items ++ body) ≡ c.len.result = omega (arith, ap length bytes, c.len.ensures, c.extend_from_slice.new.self.ok.0) in
    let count : inside.documents + document_count blocks ≡ inside.documents + c.num_docs.result = ap (λ (n : ℕ). inside.documents + n) (sym c.num_docs.ensures.counted) in
    let sum = ap (λ (n : ℕ). inside.stored + n) (sym c.document_bytes.ensures) in
    let same : stacked_on b blocks body ≡ record { bytes = c.extend_from_slice.new.self.items; checkpoints = c.push_checkpoints.new.out.items; start = c.len.result; ends = inside.ends.items; documents = inside.documents + c.num_docs.result; stored = inside.stored + c.document_bytes.result; block_size = inside.block_size } =
    λ i. record { bytes = sym bytes i; checkpoints = sym points i; start = start i; ends = inside.ends.items; documents = count i; stored = sum i; block_size = inside.block_size } in
    record {
      kept = subst IsKept same is.kept;
      more = sym (ap taken_of same) ∙ is.taken ∙ ap (λ (x : Buffers). with_stacked blocks (taken_of x)) c.blocks-2.view_is;
    }
