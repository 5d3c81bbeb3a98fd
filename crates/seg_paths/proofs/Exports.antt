-- What crates above may cite: all other modules are inner.
pub use Rattle.seg_paths.proofs.EndedPaths.{cmp-ended, ended-apart}
pub use Rattle.seg_paths.proofs.Orders.{sorted_by_bytes}
pub use Rattle.seg_paths.proofs.PathNumbers.{number-from, number-kept, number-past, number-read, same_place}
pub use Rattle.seg_paths.proofs.ZeroFreeKeys.{no_zero-at, no_zero-paths}
