use Rattle.std.proofs.Common.{◌≡◌, ◌+◌, ◌^◌, ◌<◌, ◌++◌, map, drop}
use Rattle.seg_bits.specs.BitSets.{member_count}
use Rattle.seg_merger.specs.NewIds.{id_of, new_ids}
use Rattle.seg_merger.proofs.new_ids.NewIds.new.Given as goal

-- what is done, with what is left, is all
abbrev pub invariant-loop-doc : goal.invariant-loop-doc
invariant-loop-doc l = record {
  numbered : map id_of l.ids.items ++ new_ids l.next (drop l.doc l.part.alive) ≡ new_ids l.initial.next l.part.alive;
  room : l.next + member_count (drop l.doc l.part.alive) < 2 ^ 31;
}
