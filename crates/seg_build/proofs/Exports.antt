-- What crates above may cite: all other modules are inner.
pub use Rattle.seg_build.proofs.WrittenIndex.{published_of}
