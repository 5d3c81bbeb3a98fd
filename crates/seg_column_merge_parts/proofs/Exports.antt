-- What crates above may cite: all other modules are inner.
pub use Rattle.seg_column_merge_parts.proofs.HeadHeaps.{there_in}
pub use Rattle.seg_column_merge_parts.proofs.JoinedRows.{joined_bytes, joined_column, joined_rows, joined_total}
pub use Rattle.seg_column_merge_parts.proofs.KeptRowValues.{last_kept, next_kept}
pub use Rattle.seg_column_merge_parts.proofs.KeptValueTests.{any_both, any_kept, kept_at}
pub use Rattle.seg_column_merge_parts.proofs.MergedRows.{rows_merged}
pub use Rattle.seg_column_merge_parts.proofs.NumberTypes.{large_unsigned, negative_signed, negative_unsigned, type_of_rows}
pub use Rattle.seg_column_merge_parts.proofs.RangeLaws.{signed_large, signed_negative, signed_some, unsigned_large, unsigned_negative, unsigned_some}
pub use Rattle.seg_column_merge_parts.proofs.RowValueBytes.{AreOctets, octets_left, octets_taken}
