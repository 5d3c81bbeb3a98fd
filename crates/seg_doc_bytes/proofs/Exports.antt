-- What crates above may cite: all other modules are inner.
pub use Rattle.seg_doc_bytes.proofs.GatheredValues.{Gathered, none_yet, one_more, all_made, counted}
pub use Rattle.seg_doc_bytes.proofs.MadeTrees.{array_front, object_front, leaf_front, member_made}
pub use Rattle.seg_doc_bytes.proofs.ReadSequences.{Standing, turn}
pub use Rattle.seg_doc_bytes.proofs.ReadTrees.{member_grouped}
pub use Rattle.seg_doc_bytes.proofs.WholeDocuments.{document_whole, not_none}
