use Rattle.std.proofs.Common.{◌-◌}
use Rattle.std.specs.Prelude.{option_map}
use Rattle.seg_store.specs.CheckedFields.{may_have, pair_of}
use Rattle.seg_doc_bytes.proofs.Exports.{Standing}
use Rattle.seg_store.proofs.document_check.pass_pairs.Given as goal

abbrev pub invariant-loop : goal.invariant-loop
invariant-loop l = Standing (pair_of (may_have (option_map (λ s. s.now) l.schema))) l.count l.initial.bytes.now (l.count - l.counter) l.bytes.now
