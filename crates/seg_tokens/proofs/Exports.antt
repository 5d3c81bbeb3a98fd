-- What crates above may cite: all other modules are inner.
pub use Rattle.seg_tokens.proofs.PassedItems.{all_passed, one_more}
pub use Rattle.seg_tokens.proofs.RegisteredTokenizers.{option_or-None}
