use Rattle.seg_batches.proofs.AppliedDeletes.{applied_leave_alive}
use Rattle.seg_batches.proofs.laws.applied_deletes_leave_the_alive.Goals as goal

pub returns : goal.returns
returns c = applied_leave_alive c.alive_by_postings.ensures c.deletes_clear_in_turn.ensures
