use Rattle.std.proofs.Common.{◌+◌, ◌≤◌}
use Rattle.std.specs.Prelude.{IfSome}
use Rattle.seg_store.specs.WriterBlocks.{taken_count}
use Rattle.seg_surface.proofs.postings.stores.stack.Given as goal

-- at most one document more at each turn
abbrev pub invariant-loop : goal.invariant-loop
invariant-loop l = IfSome l.writer (λ w. taken_count w ≤ 1 + l.counter)
