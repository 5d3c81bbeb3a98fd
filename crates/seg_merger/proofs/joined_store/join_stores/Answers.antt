use Rattle.std.proofs.Common.{◌+◌, length, drop, sym, ap, subst, ◌∙◌, arith}
use Rattle.std.specs.List.{AllByRecursion}
use Rattle.std.proofs.lemmas.List.{drop_all, length-append}
use Rattle.seg_model.specs.Operations.{kept}
use Rattle.seg_store.specs.Store.{documents_of}
use Rattle.seg_merger.specs.JoinedStore.{IsStored, joined_documents}
use Rattle.seg_merger.proofs.KeptCounts.{all_first}
use Rattle.seg_merger.proofs.JoinedStores.{all_joined, documents_split, left_joined, less_fits, part_split, room_joined, taken_read}
use Rattle.seg_merger.proofs.joined_store.join_stores.Goals as goal

pub add_part-requires : goal.add_part-requires
add_part-requires c =
    let parts = c.args.parts.now in
    let i = c.loop-part.part-index in
    let p = c.part-item.result in
    let first = kept p.alive (documents_of p.blocks) in
    let rest = joined_documents (drop (i + 1) parts) in
    let split = ap length (documents_split parts i p c.loop-part-test.true c.part-item.is) in
    let both = length-append first rest in
    record { limit = less_fits 2147483648 (length first) (length (joined_documents (drop i parts))) c.loop-part.writer (omega (arith, split, both)) c.loop-part.invariant.room }

pub loop-part-preserved : goal.loop-part-preserved
loop-part-preserved c =
    let parts = c.args.parts.now in
    let i = c.loop-part.part-index in
    let p = c.part-item.result in
    let first = kept p.alive (documents_of p.blocks) in
    let rest = joined_documents (drop (i + 1) parts) in
    let split = documents_split parts i p c.loop-part-test.true c.part-item.is in
    let stored = c.in_ok-add_part.ensures.stored in
    record {
      added = left_joined p (drop (i + 1) parts) (drop i parts) c.loop-part.writer c.add_part.new.writer (part_split parts i p c.loop-part-test.true c.part-item.is) c.in_ok-add_part.ensures.ok ∙ c.loop-part.invariant.added;
      room = room_joined c.documents_stay_in_order.ensures c.stacked_blocks_stay_in_order.ensures p stored 2147483648 (length rest) (length (joined_documents (drop i parts))) c.loop-part.writer c.add_part.new.writer
          (sym (ap length split ∙ length-append first rest)) c.in_ok-add_part.ensures.ok c.loop-part.invariant.room;
      stored = λ h. c.loop-part.invariant.stored (all_first IsStored parts i p c.loop-part-test.true c.part-item.is stored h);
    }

pub returns-clause-ok : goal.returns-clause-ok
returns-clause-ok c =
    all_joined (drop c.loop-part.part-index c.args.parts.now) c.loop-part.writer _ (drop_all c.loop-part.part-index c.args.parts.now c.loop-part-test.false) c.loop-part.invariant.added

pub returns-clause-documents : goal.returns-clause-documents
returns-clause-documents c =
    let none = drop_all c.loop-part.part-index c.args.parts.now c.loop-part-test.false in
    let stored = c.loop-part.invariant.stored (subst (AllByRecursion IsStored) (sym none) tt) in
    taken_read c.documents_stay_in_order.ensures c.stacked_blocks_stay_in_order.ensures c.args.parts.now stored c.args.writer.now c.loop-part.writer (returns-clause-ok c)
