use Rattle.std.proofs.Common.{subst}
use Rattle.seg_values.specs.ValueTrees.{tree_of}
use Rattle.seg_doc_bytes.specs.FrontValues.{Makes}
use Rattle.seg_doc_bytes.specs.StoredDocument as documents
use Rattle.seg_doc_bytes.proofs.GatheredValues.{one_more}
use Rattle.seg_doc_bytes.proofs.document_reader.read_pairs.Goals as goal

pub loop-preserved : goal.loop-preserved
loop-preserved c =
    let made = subst (Makes documents.pair_at (λ p. (p.0, tree_of p.1)) c.loop.bytes.now c.read_pair.new.bytes.now) c.in-Some-2.is c.in_ok-pair.ensures in
    one_more documents.pair_at c.in-Some.count c.take_varint.new.bytes.now c.loop.document c.add_field_value.new.self (c.in-Some-2.pair.0, tree_of c.in-Some-2.pair.1) c.loop.counter c.loop.bytes.now c.read_pair.new.bytes.now c.loop-test.true c.loop.invariant made c.in-Ok.ensures.ok
