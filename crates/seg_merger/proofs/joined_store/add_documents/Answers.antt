use Rattle.std.proofs.Common.{◌≡◌, ◌+◌, length, take, drop, sym, ap, ◌∙◌, arith}
use Rattle.std.proofs.lemmas.List.{length-append}
use Rattle.seg_model.specs.Operations.{kept}
use Rattle.seg_store.specs.Store.{raw_documents}
use Rattle.seg_merger.proofs.KeptLists.{kept_next, kept_past}
use Rattle.seg_merger.proofs.StoredDocuments.{raw_counted}
use Rattle.seg_merger.proofs.JoinedStores.{all_taken, left_taken, one_fits, room_left}
use Rattle.seg_merger.proofs.joined_store.add_documents.Goals as goal

pub add_document-requires-clause-limit : goal.add_document-requires-clause-limit
add_document-requires-clause-limit c alive =
    let part = c.args.part.now in
    let raw = raw_documents part.blocks in
    let count : c.args.count ≡ length raw = c.requires.counted ∙ raw_counted part.blocks in
    one_fits part.alive raw c.loop-doc.doc 2147483648 c.loop-doc.writer (omega (arith, count, c.loop-doc-test.true)) alive c.loop-doc.invariant.room

pub loop-doc-preserved : goal.loop-doc-preserved
loop-doc-preserved c =
    let part = c.args.part.now in
    let raw = raw_documents part.blocks in
    let i = c.loop-doc.doc in
    let here = kept (take 1 (drop i part.alive)) (take 1 (drop i raw)) in
    let rest = kept (drop (i + 1) part.alive) (drop (i + 1) raw) in
    let all = kept (drop i part.alive) (drop i raw) in
    let split = kept_next part.alive raw i in
    record {
      added = left_taken here rest all c.loop-doc.writer c.add_document.new.writer split c.in_ok-add_document.ensures.ok ∙ c.loop-doc.invariant.added;
      room = room_left c.documents_stay_in_order.ensures 2147483648 (length rest) (length all) here c.loop-doc.writer c.add_document.new.writer (sym (ap length split ∙ length-append here rest)) c.in_ok-add_document.ensures.ok c.loop-doc.invariant.room;
    }

pub returns-clause-ok : goal.returns-clause-ok
returns-clause-ok c =
    let part = c.args.part.now in
    let raw = raw_documents part.blocks in
    let i = c.loop-doc.doc in
    let count : c.args.count ≡ length raw = c.requires.counted ∙ raw_counted part.blocks in
    all_taken (kept (drop i part.alive) (drop i raw)) c.loop-doc.writer _ (kept_past part.alive raw i (omega (arith, count, c.loop-doc-test.false))) c.loop-doc.invariant.added
