use Rattle.seg_paths.proofs.NodeRanks.{PlacedSoFar}
use Rattle.seg_paths.proofs.placed_ranks.placed.Given as goal

abbrev pub invariant-loop-number : goal.invariant-loop-number
invariant-loop-number l = record { so_far : PlacedSoFar l.slots l.offsets l.number l.ranks.items }
