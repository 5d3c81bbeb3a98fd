use Rattle.std.proofs.Common.{◌-◌, length}
use Rattle.seg_batches.proofs.SkipTurns.{IsSkipping}
use Rattle.seg_batches.proofs.delete_cursor.DeleteCursor.skip_to.Given as goal

abbrev pub invariant-loop-self : goal.invariant-loop-self
invariant-loop-self g l = IsSkipping l.target l.initial.queue l.initial.self l.queue l.self

abbrev pub decreases-loop-self : goal.decreases-loop-self
decreases-loop-self g l = length l.queue.operations - l.self
