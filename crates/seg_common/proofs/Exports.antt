-- What crates above may cite: all other modules are inner.
pub use Rattle.seg_common.proofs.PlainDates.{is_plain, plain_date}
