-- What crates above may cite: all other modules are inner.
pub use Rattle.seg_termdict.proofs.LastTerm.{last_term-push, last_term-terms_in, terms_in-more}
pub use Rattle.seg_termdict.proofs.MergedTerms.{merged_terms_answer}
pub use Rattle.seg_termdict.proofs.SortedKeys.{dictionary_sorted}
pub use Rattle.seg_termdict.proofs.RankedTerms.{info_there, key_there, ranked_at, ranked_length, ranked_of}
