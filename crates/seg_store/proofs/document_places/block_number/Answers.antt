use Rattle.std.proofs.Common.{take, sym, ap, arith, add-one}
use Rattle.seg_store.specs.Store.{blocks_of, document_count}
use Rattle.seg_store.proofs.BlockNumbers.{block_is}
use Rattle.seg_store.proofs.DocumentPlaces.{IsFound, has_document}
use Rattle.seg_store.proofs.document_places.block_number.Goals as goal

pub returns : goal.returns
returns c =
    let found : IsFound c.args.bytes.now c.checkpoint_table.result.now c.args.doc c.first_past.result = record { store = c.requires.store; doc_within = c.requires.within; table_is = c.checkpoint_table.ensures; within = c.first_past.ensures.within; before = c.first_past.ensures.before; past = c.first_past.ensures.past } in
    let h = has_document c.args.bytes.now c.checkpoint_table.result.now c.args.doc c.first_past.result found in
    let next = ap (λ n. document_count (take n (blocks_of c.args.bytes.now))) (add-one c.first_past.result) in
    record { is = sym (block_is (blocks_of c.args.bytes.now) c.first_past.result c.args.doc h.within h.from h.to); number = h.within; from = h.from; to = omega (arith, h.to, next) }
