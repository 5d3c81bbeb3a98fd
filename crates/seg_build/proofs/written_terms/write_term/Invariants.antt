use Rattle.std.proofs.Common.{length}
use Rattle.seg_segment.proofs.Exports.{AreGiven}
use Rattle.seg_build.specs.FieldTerms.{postings_as}
use Rattle.seg_terms.specs.PostingGroups.{grouped}
use Rattle.seg_build.proofs.written_terms.write_term.Given as goal

abbrev pub invariant-loop-rest : goal.invariant-loop-rest
invariant-loop-rest l = AreGiven l.bytes l.initial.writer l.writer (postings_as l.kind (grouped l.hits)) (postings_as l.kind (grouped l.rest))

abbrev pub decreases-loop-rest : goal.decreases-loop-rest
decreases-loop-rest l = length l.rest
