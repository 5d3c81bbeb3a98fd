use Rattle.std.proofs.Common.{◌≡◌, take}
use Rattle.seg_merger.specs.JoinedNorms.{joined_ids}
use Rattle.seg_merger.proofs.joined_norms.ids_of.Given as goal

abbrev pub invariant-loop-part : goal.invariant-loop-part
invariant-loop-part l = l.ids.items ≡ joined_ids (take l.part-index l.parts) l.field
