use Rattle.seg_batches.proofs.SkipTurns.{skips, stops}
use Rattle.seg_batches.proofs.delete_cursor.DeleteCursor.skip_to.Goals as goal

pub loop-self-preserved : goal.loop-self-preserved
loop-self-preserved g c = skips _ _ _ _ _ _ c.loop-self.invariant c.is_behind.ensures.queue _ _ c.loop-self-test.ensures.below c.advance.ensures.position c.advance.ensures.queue c.advance.ensures.within c.advance.ensures.rises

pub returns-clause-position : goal.returns-clause-position
returns-clause-position g c = (stops _ _ _ _ _ _ c.loop-self.invariant c.is_behind.ensures.queue c.loop-self-test.ensures.below).0

pub returns-clause-queue : goal.returns-clause-queue
returns-clause-queue g c = (stops _ _ _ _ _ _ c.loop-self.invariant c.is_behind.ensures.queue c.loop-self-test.ensures.below).1
