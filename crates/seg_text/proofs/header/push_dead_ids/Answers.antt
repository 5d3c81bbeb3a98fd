use Rattle.seg_text.proofs.DeadIds.{left_dead}
use Rattle.seg_text.proofs.header.push_dead_ids.Goals as goal

pub loop-doc-preserved : goal.loop-doc-preserved
loop-doc-preserved c =
    left_dead c.args.alive.now c.loop-doc.doc c.loop-doc.out.items c.push_if_dead.new.out.items c.args.out.now.items c.in_ok-push_if_dead.ensures c.loop-doc.invariant
