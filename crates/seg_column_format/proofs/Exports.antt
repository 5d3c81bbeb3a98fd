-- What crates above may cite: all other modules are inner.
pub use Rattle.seg_column_format.proofs.DeclaredKeys.{declared_is}
pub use Rattle.seg_column_format.proofs.FileKeys.{keys_ascend, type_read}
pub use Rattle.seg_column_format.proofs.FoundColumns.{Rows, entry, is_there, rows_at}
pub use Rattle.seg_column_format.proofs.JsonPaths.{Passing, passing}
pub use Rattle.seg_column_format.proofs.KeyOrder.{is_other, kind_cmp, kind_place, kind_total, same_column, same_type, signed_key, ties, unsigned_key}
pub use Rattle.seg_column_format.proofs.NamedFields.{alone}
pub use Rattle.seg_column_format.proofs.RowTypes.{row_count_is}
pub use Rattle.seg_column_format.proofs.SchemaTests.{HasShape, have_shape}
