-- What crates above may cite: all other modules are inner.
pub use Rattle.seg_column_writer.proofs.DocumentColumns.{AreEmpty, columns_of_documents, same_length}
pub use Rattle.seg_column_writer.proofs.DocumentRows.{is_at, key_named}
pub use Rattle.seg_column_writer.proofs.EncodedColumns.{same_address}
pub use Rattle.seg_column_writer.proofs.FileColumns.{data_more}
pub use Rattle.seg_column_writer.proofs.MixedNumbers.{among_passes}
pub use Rattle.seg_column_writer.proofs.RecordedKeys.{key_eq}
pub use Rattle.seg_column_writer.proofs.RecordingRules.{takes_named}
pub use Rattle.seg_column_writer.proofs.RowOrderedColumns.{all_within, any_with, below_with, can_take, later, may_change_new, may_record, named_itself, named_path, new_column, place_with, recorded, there_already, there_recorded, there_still, there_then, there_with, with_change_new}
