use Rattle.std.proofs.Common.{sym, ◌∙◌}
use Rattle.seg_merger.proofs.JoinedNorms.{one_id}
use Rattle.seg_merger.proofs.joined_norms.add_id.Goals as goal

pub returns : goal.returns
returns c =
    one_id c.args.part.now.alive c.args.norms.now c.args.ids.now.items c.push.new.self.items c.args.doc c.fieldnorm_id.result
    (sym c.is_alive.ensures ∙ c.if-not-is_alive.false) c.fieldnorm_id.ensures c.in_ok-push.ensures.items
