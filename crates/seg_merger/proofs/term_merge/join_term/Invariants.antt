use Rattle.std.proofs.Common.{drop}
use Rattle.std.specs.List.{flat_map}
use Rattle.seg_merger.specs.MovedPostings.{moved_from_all}
use Rattle.seg_segment.proofs.Exports.{AreGiven}
use Rattle.seg_merger.proofs.KeyStandings.{given_at}
use Rattle.seg_merger.proofs.term_merge.join_term.Given as goal

abbrev pub invariant-loop-segment : goal.invariant-loop-segment
invariant-loop-segment l = AreGiven l.key l.initial.writer l.writer (moved_from_all l.key l.sources) (flat_map (given_at l.sources l.key) (drop l.segment-index l.standings))
