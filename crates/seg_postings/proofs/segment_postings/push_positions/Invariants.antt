use Rattle.std.proofs.Common.{◌≡◌, ◌-◌, ◌^◌, ◌≤◌, true}
use Rattle.std.specs.Prelude.{is_some}
use Rattle.seg_postings.specs.Postings.{positions_at}
use Rattle.seg_postings.proofs.PostingsStreams.{put}
use Rattle.seg_postings.proofs.segment_postings.push_positions.Given as goal

abbrev pub invariant-loop : goal.invariant-loop
invariant-loop l = record {
  low : l.before ≤ 2 ^ 32;
  there : is_some (positions_at (l.count - l.counter) l.before l.left) ≡ true;
  read : put l.out.items (positions_at (l.count - l.counter) l.before l.left) ≡ put l.fn.out.items (positions_at l.count 0 l.bytes);
}
