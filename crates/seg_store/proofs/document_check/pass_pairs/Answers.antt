use Rattle.std.specs.Prelude.{option_map}
use Rattle.seg_store.specs.CheckedFields.{may_have, pair_of}
use Rattle.seg_doc_bytes.proofs.Exports.{turn}
use Rattle.seg_store.proofs.document_check.pass_pairs.Goals as goal

pub loop-preserved : goal.loop-preserved
loop-preserved c = turn (pair_of (may_have (option_map (λ s. s.now) c.args.schema))) c.in_ok-count.count c.take_varint.new.bytes.now c.loop.counter c.loop.bytes.now c.pass_pair.new.bytes.now c.loop-test.true c.loop.invariant c.in_ok-pass_pair.ensures
