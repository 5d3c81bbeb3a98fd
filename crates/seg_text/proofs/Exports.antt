-- What crates above may cite: all other modules are inner.
pub use Rattle.seg_text.proofs.AliveSegments.{count_by-replicate, dead_text-replicate}
