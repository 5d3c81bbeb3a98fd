use Rattle.seg_merger.proofs.JoinedNorms.{left_kept}
use Rattle.seg_merger.proofs.joined_norms.add_kept.Goals as goal

pub loop-doc-preserved : goal.loop-doc-preserved
loop-doc-preserved c =
    left_kept c.args.part.now.alive c.args.norms.now c.loop-doc.ids.items c.add_id.new.ids.items _ c.loop-doc.doc c.in_ok-add_id.ensures c.loop-doc.invariant
