use Rattle.std.proofs.Common.{◌≡◌, ◌++◌, drop}
use Rattle.std.specs.Prelude.{string_bytes}
use Rattle.std.specs.List.{flat_map}
use Rattle.seg_index_build.proofs.JoinedIds.{spaced}
use Rattle.seg_index_build.proofs.payload.push_ids.Given as goal

-- what is said so far, with the ids that are left, is what is said in the end
abbrev pub invariant-loop-id : goal.invariant-loop-id
invariant-loop-id l = string_bytes l.text ++ flat_map spaced (drop l.id-index l.rest) ≡ string_bytes l.initial.text ++ flat_map spaced l.rest
