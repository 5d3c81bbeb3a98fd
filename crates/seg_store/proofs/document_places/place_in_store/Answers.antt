use Rattle.std.proofs.Common.{◌≡◌, ◌≤◌, ◌<◌, ◌-◌, ◌+◌, ◌*◌, ℕ, List, true, length, take, drop, Some, ap, ◌∙◌, arith, slice_range}
use Rattle.std.proofs.lemmas.List.{length-take}
use Rattle.seg_common.specs.LittleEndian as numbers
use Rattle.seg_store.specs.Store.{is_store, blocks_of, store_table, document_count}
use Rattle.seg_store.proofs.DocumentPlaces.{block_number, table_length, first_number, raw_in_block}
use Rattle.seg_store.proofs.PartPlaces.{range_in_range}
use Rattle.seg_store.proofs.document_places.place_in_store.Goals as goal

pub first_document-first-requires : goal.first_document-first-requires
first_document-first-requires c = omega (arith, ap length c.checkpoint_table.ensures, table_length c.args.bytes.now c.requires.store, block_number c.args.bytes.now, c.requires.number)

-- the number of the block's first document
first : (bytes table : List ℕ) (number n : ℕ) → is_store bytes ≡ true → number < length (blocks_of bytes) → table ≡ store_table bytes → (number ≡ 0 → n ≡ 0) → ((i : ℕ) → number ≡ i + 1 → n ≡ numbers.u32_at table (12 * i)) → n ≡ document_count (take number (blocks_of bytes))
first bytes table number n h lt same zero after = first_number bytes number n h (omega (arith, lt, block_number bytes)) zero (λ i is. after i is ∙ ap (λ t. numbers.u32_at t (12 * i)) same)

pub overflow_sub-doc : goal.overflow_sub-doc
overflow_sub-doc c = omega (arith, c.requires.from, first c.args.bytes.now c.checkpoint_table.result.now c.args.number c.first_document-first.result c.requires.store c.requires.number c.checkpoint_table.ensures c.first_document-first.ensures.first c.first_document-first.ensures.after)

pub place_in_block-from-requires-clause-within : goal.place_in_block-from-requires-clause-within
place_in_block-from-requires-clause-within c =
    let number = first c.args.bytes.now c.checkpoint_table.result.now c.args.number c.first_document-first.result c.requires.store c.requires.number c.checkpoint_table.ensures c.first_document-first.ensures.first c.first_document-first.ensures.after in
    (raw_in_block (blocks_of c.args.bytes.now) (slice_range c.args.bytes.now c.block_place-start.result.0 c.block_place-start.result.1) c.args.number c.first_document-first.result c.args.doc c.block_place-start.ensures.is number c.requires.from c.requires.to).1

pub returns-clause-is : goal.returns-clause-is
returns-clause-is c =
    let bytes = c.args.bytes.now in
    let start = c.block_place-start.result.0 in
    let end = c.block_place-start.result.1 in
    let number = first bytes c.checkpoint_table.result.now c.args.number c.first_document-first.result c.requires.store c.requires.number c.checkpoint_table.ensures c.first_document-first.ensures.first c.first_document-first.ensures.after in
    let size = length-take (end - start) (drop start bytes) in
    let within : c.place_in_block-from.result.1 ≤ end - start = omega (arith, c.place_in_block-from.ensures.within, size) in
    (raw_in_block (blocks_of bytes) (slice_range bytes start end) c.args.number c.first_document-first.result c.args.doc c.block_place-start.ensures.is number c.requires.from c.requires.to).0
    ∙ c.place_in_block-from.ensures.is
    ∙ ap Some (range_in_range bytes start end c.place_in_block-from.result.0 c.place_in_block-from.result.1 c.block_place-start.ensures.order c.block_place-start.ensures.within c.place_in_block-from.ensures.order within)
