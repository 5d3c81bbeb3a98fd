use Rattle.seg_check.proofs.Exports.{number_more}
use Rattle.seg_script.proofs.ids.numbered_ids.Goals as goal

pub loop-before-preserved : goal.loop-before-preserved
loop-before-preserved c = number_more c.loop-before.ids.items c.push.new.self.items c.loop-before.before
    c.from_u128.result c.loop-before.invariant c.in_ok-push.ensures.items c.from_u128.ensures
