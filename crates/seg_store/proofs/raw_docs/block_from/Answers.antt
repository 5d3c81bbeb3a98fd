use Rattle.std.proofs.Common.{◌≡◌, ◌≤◌, ◌<◌, ◌+◌, ◌*◌, ℕ, List, true, length, take, refl, sym, ap, ◌∙◌, arith, add-one}
use Rattle.seg_common.specs.LittleEndian.{u32_at}
use Rattle.seg_store.specs.Store.{is_store, store_table, blocks_of, document_count}
use Rattle.seg_store.proofs.DocumentPlaces.{store_facts, block_number, table_length, doc_end_at, index_below}
use Rattle.seg_store.proofs.raw_docs.block_from.Goals as goal

-- where a block ends
end_of : (bytes table : List ℕ) (block n : ℕ) → is_store bytes ≡ true → block < length (blocks_of bytes) → table ≡ store_table bytes → n ≡ u32_at table (12 * block) → n ≡ document_count (take (block + 1) (blocks_of bytes))
end_of bytes table block n h lt same is =
    is ∙ ap (λ t. u32_at t (12 * block)) same ∙ doc_end_at bytes block h (omega (arith, lt, block_number bytes))
    ∙ ap (λ m. document_count (take m (blocks_of bytes))) (sym (add-one block))

pub checkpoint_at-requires : goal.checkpoint_at-requires
checkpoint_at-requires c = omega (arith, c.loop-table.invariant.number, ap length c.loop-table.invariant.table, table_length c.args.bytes.now c.requires.store, block_number c.args.bytes.now)

pub overflow_add-block : goal.overflow_add-block
overflow_add-block c = omega (arith, c.loop-table.invariant.number, block_number c.args.bytes.now, (store_facts c.args.bytes.now c.requires.store).room)

pub loop-table-preserved : goal.loop-table-preserved
loop-table-preserved c =
    let bytes = c.args.bytes.now in
    let end = end_of bytes c.checkpoint_table-table.result.now c.loop-table.block c.checkpoint_at.result.doc_end c.requires.store c.loop-table.invariant.number c.loop-table.invariant.table c.checkpoint_at.ensures.doc_end in
    let from : document_count (take (c.loop-table.block + 1) (blocks_of bytes)) ≤ c.args.doc = omega (arith, end, c.loop-table-test.true) in
    let below : length (blocks_of bytes) ≤ c.loop-table.block + 1 → ⊥ = index_below (length (blocks_of bytes)) (c.loop-table.block + 1) (blocks_of bytes) c.args.doc refl c.requires.within from in
    record { table = c.loop-table.invariant.table; number = omega (arith, below); from = from }

pub returns-clause-to : goal.returns-clause-to
returns-clause-to c =
    omega (arith, c.loop-table-test.false, end_of c.args.bytes.now c.checkpoint_table-table.result.now c.loop-table.block c.checkpoint_at.result.doc_end c.requires.store c.loop-table.invariant.number c.loop-table.invariant.table c.checkpoint_at.ensures.doc_end)
