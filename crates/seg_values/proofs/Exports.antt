-- What crates above may cite: all other modules are inner.
pub use Rattle.seg_values.proofs.DistinctLists.{all_distinct-again, all_distinct-push}
pub use Rattle.seg_values.proofs.FieldPlaces.{name-kept_entry}
pub use Rattle.seg_values.proofs.JsonPathTexts.{join-written}
pub use Rattle.seg_values.proofs.RisingKeys.{is_sorted-rising}
pub use Rattle.seg_values.proofs.SameNames.{named, same_name-sym, unnamed}
pub use Rattle.seg_values.proofs.ShownAddresses.{segments_of-octets_of}
pub use Rattle.seg_values.proofs.StoredCounts.{count_members, count_trees}
pub use Rattle.seg_values.proofs.TreeLevels.{levels-at, member_levels-at}
