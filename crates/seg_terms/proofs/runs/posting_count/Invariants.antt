use Rattle.std.proofs.Common.{◌≡◌, ◌+◌, length}
use Rattle.seg_terms.specs.PostingGroups.{grouped}
use Rattle.seg_terms.proofs.runs.posting_count.Given as goal

-- what is so far, with what is left, is all
abbrev pub invariant-loop-rest : goal.invariant-loop-rest
invariant-loop-rest l = l.count + length (grouped l.rest) ≡ length (grouped l.hits)

abbrev pub decreases-loop-rest : goal.decreases-loop-rest
decreases-loop-rest l = length l.rest
