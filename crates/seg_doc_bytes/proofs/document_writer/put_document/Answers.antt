use Rattle.std.proofs.Common.{ℕ, ◌∙◌, arith}
use Rattle.seg_values.specs.Tree.{Tree}
use Rattle.seg_values.specs.ValueTrees.{tree_of}
use Rattle.seg_values.specs.StoredDocuments.{stored_document}
use Rattle.seg_doc_bytes.proofs.ReadDocuments.{document_reads}
use Rattle.seg_doc_bytes.proofs.StoredPairs.{one_pair, one_storable_pair, all_storable}
use Rattle.seg_doc_bytes.proofs.document_writer.put_document.Goals as goal

pub loop-at-preserved : goal.loop-at-preserved
loop-at-preserved c =
    let p : ℕ × Tree = (c.pair-field.result.0, tree_of c.pair-field.result.1.now) in
    let schema = c.args.schema.now in
    let document = c.args.document.now in
    record {
      form = one_pair schema document c.loop-at.at p c.loop-at.out.items c.put_if_stored.new.out.items c.pair-field.ensures c.in_ok-put_if_stored.ensures.form ∙ c.loop-at.invariant.form;
      storable = λ others. c.loop-at.invariant.storable (one_storable_pair schema document c.loop-at.at p c.pair-field.ensures c.in_ok-put_if_stored.ensures.storable others);
    }

pub returns-clause-reads : goal.returns-clause-reads
returns-clause-reads c =
    let schema = c.args.schema.now in
    let document = c.args.document.now in
    document_reads (stored_document schema document) (c.loop-at.invariant.storable (all_storable schema document c.loop-at.at (omega arith))) (omega (arith, c.count_stored.ensures))
