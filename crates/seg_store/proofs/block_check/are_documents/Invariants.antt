use Rattle.std.proofs.Common.{option_map}
use Rattle.seg_store.specs.CheckedFields.{is_document_of, may_have}
use Rattle.seg_store.proofs.CutParts.{PartsPassed}
use Rattle.seg_store.proofs.block_check.are_documents.Given as goal

abbrev pub invariant-loop-index : goal.invariant-loop-index
invariant-loop-index l = PartsPassed (is_document_of (may_have (option_map (λ s. s.now) l.schema))) l.count l.ends l.bytes l.start l.index
