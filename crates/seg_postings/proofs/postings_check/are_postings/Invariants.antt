use Rattle.std.proofs.Common.{◌≡◌, ◌-◌}
use Rattle.seg_postings.specs.RemainingPostings.{postings_at, are_low}
use Rattle.seg_postings.proofs.postings_check.are_postings.Given as goal

abbrev pub invariant-loop : goal.invariant-loop
invariant-loop l = are_low l.max_doc (postings_at l.kind (l.count - l.counter) l.before l.least l.left l.positions_left) ≡ are_low l.max_doc (postings_at l.kind l.count 0 0 l.postings l.positions)
