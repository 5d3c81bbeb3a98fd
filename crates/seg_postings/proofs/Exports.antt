-- What crates above may cite: all other modules are inner.
pub use Rattle.seg_postings.proofs.KeptTerms.{dictionary_of_field}
pub use Rattle.seg_postings.proofs.TermForms.{form_of_term}
