use Rattle.std.proofs.Common.{◌≤◌, ◌*◌, length, take, ap, ◌∙◌, arith}
use Rattle.seg_common.specs.LittleEndian.{u32_at}
use Rattle.seg_store.specs.Store.{store_table, store_count, document_count}
use Rattle.seg_store.proofs.DocumentPlaces.{block_number, table_length, first_number}
use Rattle.seg_store.proofs.store_reader.StoreReader.first_document.Goals as goal

pub first_document-requires : goal.first_document-requires
first_document-requires c =
    let bytes = c.self.inside.bytes in
    let table = ap length (c.checkpoint_table.ensures ∙ ap store_table c.as_slice.ensures) ∙ table_length bytes c.self.invariant in
    omega (arith, table, block_number bytes, ap length c.self.view_is, c.requires)

pub returns : goal.returns
returns c =
    let bytes = c.self.inside.bytes in
    let within : c.args.number ≤ store_count bytes = omega (arith, block_number bytes, ap length c.self.view_is, c.requires) in
    first_number bytes c.args.number c.first_document.result c.self.invariant within c.first_document.ensures.first
    (λ i is. c.first_document.ensures.after i is ∙ ap (λ t. u32_at t (12 * i)) (c.checkpoint_table.ensures ∙ ap store_table c.as_slice.ensures))
    ∙ ap (λ bs. document_count (take c.args.number bs)) c.self.view_is
