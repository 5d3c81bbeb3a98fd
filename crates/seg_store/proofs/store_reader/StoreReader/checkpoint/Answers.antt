use Rattle.std.proofs.Common.{◌+◌, ◌*◌, ◌<◌, suc, length, take, ap, ◌∙◌, arith, add-one, sym}
use Rattle.seg_common.specs.LittleEndian.{u32_at, u64_at}
use Rattle.seg_store.specs.Checkpoints.{stored_size}
use Rattle.seg_store.specs.Store.{store_count, store_table, document_count}
use Rattle.seg_store.proofs.DocumentPlaces.{table_length, block_number, doc_end_at, byte_end_at}
use Rattle.seg_store.proofs.store_reader.StoreReader.checkpoint.Goals as goal

pub checkpoint_at-requires : goal.checkpoint_at-requires
checkpoint_at-requires c =
    let bytes = c.self.inside.bytes in
    let table = ap length (c.checkpoint_table.ensures ∙ ap store_table c.as_slice.ensures) ∙ table_length bytes c.self.invariant in
    omega (arith, table, block_number bytes, ap length c.self.view_is, c.requires)

pub returns-clause-doc_end : goal.returns-clause-doc_end
returns-clause-doc_end c =
    let bytes = c.self.inside.bytes in
    let within : c.args.index < store_count bytes = omega (arith, block_number bytes, ap length c.self.view_is, c.requires) in
    c.checkpoint_at.ensures.doc_end
    ∙ ap (λ t. u32_at t (12 * c.args.index)) (c.checkpoint_table.ensures ∙ ap store_table c.as_slice.ensures)
    ∙ doc_end_at bytes c.args.index c.self.invariant within
    ∙ ap (λ bs. document_count (take (suc c.args.index) bs)) c.self.view_is
    ∙ ap (λ n. document_count (take n c.args.self.now)) (sym (add-one c.args.index))

pub returns-clause-byte_end : goal.returns-clause-byte_end
returns-clause-byte_end c =
    let bytes = c.self.inside.bytes in
    let within : c.args.index < store_count bytes = omega (arith, block_number bytes, ap length c.self.view_is, c.requires) in
    c.checkpoint_at.ensures.byte_end
    ∙ ap (λ t. u64_at t (12 * c.args.index + 4)) (c.checkpoint_table.ensures ∙ ap store_table c.as_slice.ensures)
    ∙ byte_end_at bytes c.args.index c.self.invariant within
    ∙ ap (λ bs. stored_size (take (suc c.args.index) bs)) c.self.view_is
    ∙ ap (λ n. stored_size (take n c.args.self.now)) (sym (add-one c.args.index))
