-- What crates above may cite: all other modules are inner.
pub use Rattle.seg_directory.proofs.AbsentFiles.{never_there, quiet_steps}
pub use Rattle.seg_directory.proofs.CallMoments.{leaves_on, leaves_only, passes_on, passes_weaker, started}
pub use Rattle.seg_directory.proofs.DiskImages.{settled_files_are_the_only_image}
pub use Rattle.seg_directory.proofs.DiskNames.{Avoids, KeepsName, holds_name, keeps_names}
pub use Rattle.seg_directory.proofs.DiskSaves.{begins_on_disk, published_on_disk, publishes_on_disk, saved_on_disk, saves_on_disk}
pub use Rattle.seg_directory.proofs.OtherFiles.{keeps_others}
pub use Rattle.seg_directory.proofs.StepParts.{Parts, in_first, in_next, in_parts, parts_on, suits_then}
pub use Rattle.seg_directory.proofs.StepSequences.{answers, broke, does_nothing, for_at, for_ok, split_does, stops, stops as stops_before, stops_at, then_does, went}
pub use Rattle.seg_directory.proofs.StepsOnDisk.{AllCalls, OnlyReads, keeps_disk, keeps_disk_for, reads_only, turns_kept, turns_none, turns_on}
pub use Rattle.seg_directory.proofs.SuccessfulSteps.{all_went}
