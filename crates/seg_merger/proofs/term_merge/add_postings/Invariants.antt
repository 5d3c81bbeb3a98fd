use Rattle.std.proofs.Common.{◌<◌, length}
use Rattle.std.specs.List.{AllByRecursion}
use Rattle.seg_merger.specs.MovedPostings.{moved, moved_from}
use Rattle.seg_segment.proofs.Exports.{AreGiven}
use Rattle.seg_merger.proofs.term_merge.add_postings.Given as goal

abbrev pub invariant-loop-kind : goal.invariant-loop-kind
invariant-loop-kind l = record {
  given : AreGiven l.key l.initial.writer l.writer (moved_from l.key l.source) (moved l.source.ids l.postings.left);
  within : AllByRecursion (λ p. p.document < length l.source.ids) l.postings.left;
}

abbrev pub decreases-loop-kind : goal.decreases-loop-kind
decreases-loop-kind l = length l.postings.left
