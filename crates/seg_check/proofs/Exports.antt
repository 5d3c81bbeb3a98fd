-- What crates above may cite: all other modules are inner.
pub use Rattle.seg_check.proofs.TextSizeSums.{counts-add, start-from}
pub use Rattle.seg_check.proofs.RefusalCauses.{EachHas, cause-has, first_each, or_each, unless_each}
pub use Rattle.seg_check.proofs.FieldLimits.{for_one_field}
pub use Rattle.seg_check.proofs.FieldLeaves.{are-leaves, no_more}
pub use Rattle.seg_check.proofs.RefusalErrors.{batch_is_refusal, map_each, schema_each, shape_each, start_is_refusal}
pub use Rattle.seg_check.proofs.RisingPositions.{rises, rises_first}
pub use Rattle.seg_check.proofs.InputRefusals.{first_is_refusal}
pub use Rattle.seg_check.proofs.NumberedIds.{number_more}
