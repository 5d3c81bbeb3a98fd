-- What a queue ends as, once what was lent of it is given back.
use Rattle.std.specs.Prelude.{ℕ}
use Rattle.std.specs.Borrow.{Fml, RattleType, MutBor}
use Rattle.std.specs.Io.BufRead.{Rests}
use Rattle.seg_batches.specs.Queues.{Queue, IsFlushedAt}
use Rattle.seg_batches.specs.contracts.delete_queue.DeleteQueue.{the_row}

-- it is flushed as a cursor at the position leaves it
abbrev pub EndsFlushedAt : (T : RattleType) → ℕ → MutBor (Queue T.Denot) → Fml
EndsFlushedAt T position queue = Rests (the_row T) queue (IsFlushedAt position queue.now)
