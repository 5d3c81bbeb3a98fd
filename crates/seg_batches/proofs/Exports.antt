-- What crates above may cite: all other modules are inner.
pub use Rattle.seg_batches.proofs.AliveFileContents.{alive_fresh, all_tell}
pub use Rattle.seg_batches.proofs.BatchCauses.{IsFirst, TellsRefusal}
pub use Rattle.seg_batches.proofs.BatchOutcomes.{batches_fresh, batches_none, batches_told}
pub use Rattle.seg_batches.proofs.BatchSteps.{if_refusal, length-alive_after, refusal_weaker}
pub use Rattle.seg_batches.proofs.KeptFiles.{all_stand}
pub use Rattle.seg_batches.proofs.KeptTotals.{all_totals, totals_on}
pub use Rattle.seg_batches.proofs.LeftBatches.{undamaged}
pub use Rattle.seg_batches.proofs.SegmentTurns.{all_fit, all_taken}
pub use Rattle.seg_batches.proofs.StartCauses.{as_many, causes_tell, first_cause}
pub use Rattle.seg_open.proofs.Exports.{both_full}
