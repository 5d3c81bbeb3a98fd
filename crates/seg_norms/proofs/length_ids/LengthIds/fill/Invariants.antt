use Rattle.std.proofs.Common.{◌≡◌, ◌++◌}
use Rattle.std.specs.Prelude.{replicate}
use Rattle.seg_norms.proofs.length_ids.LengthIds.fill.Given as goal

-- this many are added
abbrev pub invariant-loop : goal.invariant-loop
invariant-loop l = l.self-inside.ids.items ≡ l.initial.self-inside.ids.items ++ replicate l.counter 0
