-- What crates above may cite: all other modules are inner.
pub use Rattle.seg_store.proofs.LastDocuments.{last_size}
pub use Rattle.seg_store.proofs.MadeDocuments.{documents_are_read, read_all}
