use Rattle.std.proofs.Common.{◌≤◌, ◌*◌, suc, length}
use Rattle.seg_access.proofs.SpelledTrees.{Read, ReadMembers}
use Rattle.seg_access.proofs.owned_pieces.+reading.Given as goal

abbrev pub decreases-read_value : goal.decreases-read_value
decreases-read_value l = 2 * length l.pieces.now

abbrev pub decreases-read_values : goal.decreases-read_values
decreases-read_values l = suc (2 * length l.pieces.now)

abbrev pub decreases-read_members : goal.decreases-read_members
decreases-read_members l = suc (2 * length l.pieces.now)

abbrev pub invariant-read_values-loop : goal.invariant-read_values-loop
invariant-read_values-loop l = record {
  read : Read l.fn.pieces l.pieces l.values l.counter;
  no_longer : length l.pieces ≤ length l.fn.pieces;
}

abbrev pub invariant-read_members-loop : goal.invariant-read_members-loop
invariant-read_members-loop l = record {
  read : ReadMembers l.fn.pieces l.pieces l.members l.counter;
  no_longer : length l.pieces ≤ length l.fn.pieces;
}
