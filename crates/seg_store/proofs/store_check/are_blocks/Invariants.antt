use Rattle.std.proofs.Common.{option_map}
use Rattle.seg_store.specs.CheckedFields.{is_block_of, may_have}
use Rattle.seg_store.proofs.CutParts.{BlocksPassed}
use Rattle.seg_store.proofs.store_check.are_blocks.Given as goal

abbrev pub invariant-loop-index : goal.invariant-loop-index
invariant-loop-index l = BlocksPassed (is_block_of (may_have (option_map (λ s. s.now) l.schema))) l.total l.count l.table l.bytes l.documents l.start l.index
