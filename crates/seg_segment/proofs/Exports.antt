-- What crates above may cite: all other modules are inner.
pub use Rattle.seg_segment.proofs.FieldSequences.{AreParts, AreTermsOf, hold_terms, is_whole}
pub use Rattle.seg_segment.proofs.FilesOnDisk.{none_on_disk, others_on_disk}
pub use Rattle.seg_segment.proofs.GivenPostings.{AreGiven, all_given, given_more, has_whole_term, may_begin, may_end, may_take, no_terms, none_given, none_taken}
pub use Rattle.seg_segment.proofs.KeptFiles.{after_keeps, all_touched, keeps_untouched}
pub use Rattle.seg_segment.proofs.ListTails.{drop-item, entry_at}
pub use Rattle.seg_segment.proofs.MadeFiles.{absent_suit, are_made, newest, others_stay, six_there}
pub use Rattle.seg_segment.proofs.ReadOnlySteps.{FindWhole, FindsDamage, OnlyReads, Unchanged, found_whole, reads_both, reads_rose, reads_so, reads_stay, rose_before, same_state, suits_both, then_same, whole_both}
pub use Rattle.seg_segment.proofs.ReadTerms.{pair_of, term_of}
pub use Rattle.seg_segment.proofs.SameErrors.{failing, same_error}
pub use Rattle.seg_segment.proofs.SpelledFiles.{held_on, held_spells, stands_there}
pub use Rattle.seg_segment.proofs.TokenTotals.{told_totals}
pub use Rattle.seg_segment.proofs.UniqueContents.{one, selected}
pub use Rattle.seg_segment.proofs.WrittenDocuments.{IsRecorded, are_of_kind, posting_is}
