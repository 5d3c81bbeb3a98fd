use Rattle.std.proofs.Common.{◌≡◌, ◌++◌, drop, w64}
use Rattle.std.specs.List.{flat_map}
use Rattle.std.specs.Int.{to_le_bytes}
use Rattle.seg_store.proofs.written_blocks.put_ends.Given as goal

-- what is so far, with what is left, is all
abbrev pub invariant-loop-end : goal.invariant-loop-end
invariant-loop-end l = l.out.items ++ flat_map (to_le_bytes w64) (drop l.end-index l.ends) ≡ l.fn.out.items ++ flat_map (to_le_bytes w64) l.ends
