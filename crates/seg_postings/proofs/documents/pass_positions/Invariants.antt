use Rattle.std.proofs.Common.{◌≡◌, ◌-◌, ◌^◌, ◌≤◌}
use Rattle.seg_postings.specs.Postings.{positions_at}
use Rattle.seg_postings.proofs.PassedPositions.{after}
use Rattle.seg_postings.proofs.documents.pass_positions.Given as goal

abbrev pub invariant-loop : goal.invariant-loop
invariant-loop l = record {
  low : l.before ≤ 2 ^ 32;
  read : after (positions_at (l.count - l.counter) l.before l.bytes.now) ≡ after (positions_at l.count 0 l.initial.bytes.now);
}
