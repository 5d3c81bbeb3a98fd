use Rattle.std.proofs.Common.{◌≡◌, ◌-◌}
use Rattle.seg_postings.specs.Postings.{counts_at}
use Rattle.seg_postings.specs.PostingsWithoutPositions.{are_counted}
use Rattle.seg_postings.proofs.postings_check.are_documents.Given as goal

-- what is left decides
abbrev pub invariant-loop : goal.invariant-loop
invariant-loop l = are_counted l.max_doc (counts_at l.kind (l.count - l.counter) l.before l.least l.left) ≡ are_counted l.max_doc (counts_at l.kind l.count 0 0 l.postings)
