-- What crates above may cite: all other modules are inner.
pub use Rattle.seg_model.proofs.Answers.{no_other_terms}
pub use Rattle.seg_model.proofs.JoinedColumns.{IsNothingElse, all_fit, are_columns, column_cmp_total, columns_apart, covers, covers_documents, is_filled-parts, is_filled-without_values, no_column, not_mixed, same_columns}
pub use Rattle.seg_model.proofs.Fields.{at_place}
pub use Rattle.seg_model.proofs.FirstAnswers.{first_none, map_none, none_map, or_both, or_first, or_none, or_second, some_none, unless_true}
pub use Rattle.seg_model.proofs.GroupedParts.{kept-all, length-all_recorded}
pub use Rattle.seg_model.proofs.AddedDocuments.{postings_grow}
pub use Rattle.seg_model.proofs.LiveParts.{kept-map, was_read}
pub use Rattle.seg_model.proofs.Refusals.{Fits, Taken, none_count, parts_none, taken_pass}
pub use Rattle.seg_model.proofs.ReadingShape.{readings_have_full_shape}
pub use Rattle.seg_model.proofs.ReadingColumnShapes.{own_leaf_array}
pub use Rattle.seg_model.proofs.SaturatedSums.{sum_on}
pub use Rattle.seg_model.proofs.TermShapes.{ArePostings-from, AreRecordsOf, AreRecordsOf-all_recorded, each-kept}
pub use Rattle.seg_model.proofs.CheckAnswers.{told_on}
pub use Rattle.seg_model.proofs.JoinedTerms.{AreNone-all_recorded, AreNone-kept, complete_joined, get-terms_of, postings_from-none, unwrap_if_any}
pub use Rattle.seg_model.proofs.Utf8Paths.{IsUtf8-ascii, has_no_zero-append, has_no_zero-dots, path_part-path, type_code-path}
pub use Rattle.seg_model.proofs.AliveByPostings.{length-additions}
