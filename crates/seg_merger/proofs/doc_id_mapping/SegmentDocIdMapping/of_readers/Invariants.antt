use Rattle.std.proofs.Common.{◌≡◌, ◌++◌, drop}
use Rattle.seg_merger.specs.DocIdMapping.{live_places}
use Rattle.seg_merger.proofs.doc_id_mapping.SegmentDocIdMapping.of_readers.Given as goal

-- the places so far, with those of what is left, are all
abbrev pub invariant-loop-segment_ord : goal.invariant-loop-segment_ord
invariant-loop-segment_ord l =
    l.addresses.items ++ live_places l.segment_ord (drop l.segment_ord l.readers) ≡ live_places 0 l.readers
