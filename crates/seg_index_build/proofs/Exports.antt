-- What crates above may cite: all other modules are inner.
pub use Rattle.seg_index_build.specs.BuildOutcomes.{IsBuildError, RoseIn}
pub use Rattle.seg_index_build.proofs.BuildRefusals.{read_unrefused}
pub use Rattle.seg_index_build.proofs.LastReads.{told_both}
pub use Rattle.seg_index_build.proofs.TakenParts.{builds_seen, gained_as}
pub use Rattle.seg_index_build.proofs.WorkReadings.{IsCounted, alive_read, batches_counted, counts}
