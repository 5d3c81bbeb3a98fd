-- What crates above may cite: all other modules are inner.
pub use Rattle.seg_open.proofs.AliveFileReads.{as_many_read}
pub use Rattle.seg_open.proofs.DocumentMarks.{all_alive, all_counted, both_full, both_long, count-more, counts_both, full_set, lacking, lacking_long, some_lacks}
pub use Rattle.seg_open.proofs.OpenedSegments.{AreTold, EachRead, IsHeld, IsOf, Whole, opens_held, opens_holds, opens_of_schema, opens_rose, opens_so, opens_stay, opens_totals, opens_undamaged, segments_held, segments_of_schema, segments_rose, segments_so, segments_stay, segments_totals, segments_undamaged}
pub use Rattle.seg_open.proofs.OpeningOnDisk.{segment_only}
pub use Rattle.seg_open.proofs.OpeningSteps.{none_yet, opens_turn, starves_after, starves_all, stops_turn}
