-- What crates above may cite: all other modules are inner.
pub use Rattle.seg_meta.proofs.IdDigits.{is_id_from}
pub use Rattle.seg_meta.proofs.JsonOfBytes.{either}
pub use Rattle.seg_meta.proofs.PlainJson.{IsUtf8-hex}
pub use Rattle.seg_meta.proofs.ReadLists.{IsReadSoFar, distinct_list-again, distinct_list-long, distinct_list-whole, left-cons, one_behind, so_far, step}
