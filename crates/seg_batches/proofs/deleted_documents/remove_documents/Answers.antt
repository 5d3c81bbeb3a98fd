use Rattle.std.proofs.Common.{◌<◌, ℕ, Bool, drop, length, sym, ap, ◌∙◌, arith, drop-drop}
use Rattle.std.proofs.lemmas.List.{drop_all}
use Rattle.seg_batches.specs.DeletedDocuments.{is_deleted}
use Rattle.seg_batches.specs.AppliedDeletes.{staying}
use Rattle.seg_batches.proofs.DroppedNumbers.{dropped_more, none_dropped, passes}
use Rattle.seg_batches.proofs.StayingMembers.{length-staying}
use Rattle.seg_batches.proofs.deleted_documents.remove_documents.Goals as goal

pub loop-doc-preserved : goal.loop-doc-preserved
loop-doc-preserved c =
    let older : ℕ → Bool = λ i. is_deleted c.args.mapping.now i c.args.opstamp in
    let docs = c.args.docs.now in
    let at = c.loop-doc.doc-index in
    let inside : at < length docs = omega arith in
    record {
      size = ap length c.remove_document.ensures ∙ length-staying _ c.loop-doc.alive ∙ c.loop-doc.invariant.size;
      alive =
          ap (λ ids. staying (passes older ids) c.remove_document.new.alive) (sym (drop-drop 1 at docs))
          ∙ ap (staying (passes older (drop 1 (drop at docs)))) c.remove_document.ensures
          ∙ dropped_more older docs at _ c.loop-doc.alive inside
          ∙ c.loop-doc.invariant.alive;
    }

pub returns : goal.returns
returns c =
    let older : ℕ → Bool = λ i. is_deleted c.args.mapping.now i c.args.opstamp in
    sym (none_dropped older (drop c.loop-doc.doc-index c.args.docs.now) c.loop-doc.alive (drop_all c.loop-doc.doc-index c.args.docs.now (omega arith)))
    ∙ c.loop-doc.invariant.alive
