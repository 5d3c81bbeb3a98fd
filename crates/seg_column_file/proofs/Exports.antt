-- What crates above may cite: all other modules are inner.
pub use Rattle.seg_column_file.proofs.CallAnswers.{if_ok_so, on_ok_so}
pub use Rattle.seg_column_file.proofs.KeptMarks.{file_below, view_marked}
