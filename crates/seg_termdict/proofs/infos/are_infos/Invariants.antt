use Rattle.std.proofs.Common.{◌<◌, ◌≤◌, ◌+◌, ℕ}
use Rattle.seg_termdict.specs.Dictionary.{postings_start, positions_start}
use Rattle.seg_termdict.proofs.infos.are_infos.Given as goal

abbrev pub invariant-loop-i : goal.invariant-loop-i
invariant-loop-i l = record {
  postings : (k : ℕ) → k < l.i → postings_start l.infos k ≤ postings_start l.infos (k + 1);
  positions : (k : ℕ) → k < l.i → positions_start l.infos k ≤ positions_start l.infos (k + 1);
}
