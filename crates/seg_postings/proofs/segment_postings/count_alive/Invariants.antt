use Rattle.std.proofs.Common.{◌≡◌, ◌+◌, ◌^◌, ◌<◌, length}
use Rattle.seg_postings.specs.OpenPostings.{alive_count}
use Rattle.seg_postings.proofs.segment_postings.count_alive.Given as goal

abbrev pub invariant-loop-kind : goal.invariant-loop-kind
invariant-loop-kind l = record {
  counted : l.count + alive_count l.alive l.postings.left ≡ alive_count l.alive l.initial.postings.left;
  few : l.count + length l.postings.left < 2 ^ 32;
}

abbrev pub decreases-loop-kind : goal.decreases-loop-kind
decreases-loop-kind l = length l.postings.left
