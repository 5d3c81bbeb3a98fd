use Rattle.seg_paths.proofs.NodeOffsets.{OffsetsSoFar}
use Rattle.seg_paths.proofs.offset.offsets.Given as goal

abbrev pub invariant-loop-number : goal.invariant-loop-number
invariant-loop-number l = record { so_far : OffsetsSoFar l.slots l.sizes l.order l.number-index l.offsets.items l.next.items }
