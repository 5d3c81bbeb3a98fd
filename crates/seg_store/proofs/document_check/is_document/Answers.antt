use Rattle.std.specs.Prelude.{option_map}
use Rattle.seg_store.specs.CheckedFields.{may_have}
use Rattle.seg_store.proofs.PassedPairs.{document_passed, document_refused}
use Rattle.seg_store.proofs.document_check.is_document.Goals as goal

pub returns-in-Some : goal.returns-in-Some
returns-in-Some c = document_passed (may_have (option_map (λ s. s.now) c.args.schema)) c.args.bytes.now c.pass_pairs.new.bytes.now c.is_empty.result c.in-Some.ensures c.is_empty.ensures

pub returns-in-None : goal.returns-in-None
returns-in-None c = document_refused (may_have (option_map (λ s. s.now) c.args.schema)) c.args.bytes.now c.in-None.ensures
