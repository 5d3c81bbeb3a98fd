use Rattle.std.proofs.Common.{length, ap, ◌∙◌, arith}
use Rattle.seg_store.specs.Store.{store_table}
use Rattle.seg_store.proofs.DocumentPlaces.{table_length, block_number}
use Rattle.seg_store.proofs.store_reader.StoreReader.block_count.Goals as goal

pub returns : goal.returns
returns c =
    let bytes = c.self.inside.bytes in
    let table = ap length (c.checkpoint_table.ensures ∙ ap store_table c.as_slice.ensures) ∙ table_length bytes c.self.invariant in
    omega (arith, table, block_number bytes, ap length c.self.view_is)
