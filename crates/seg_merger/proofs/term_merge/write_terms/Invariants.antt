use Rattle.seg_merger.proofs.MergedKeys.{HasMerged, left_of}
use Rattle.seg_merger.proofs.term_merge.write_terms.Given as goal

abbrev pub invariant-loop-places : goal.invariant-loop-places
invariant-loop-places l = HasMerged l.sources l.merger l.initial.writer l.writer

abbrev pub decreases-loop-places : goal.decreases-loop-places
decreases-loop-places l = left_of l.sources l.merger
