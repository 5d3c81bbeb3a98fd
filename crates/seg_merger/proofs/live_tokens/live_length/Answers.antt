use Rattle.std.proofs.Common.{sym, ◌∙◌}
use Rattle.seg_merger.proofs.JoinedTotals.{one_length}
use Rattle.seg_merger.proofs.live_tokens.live_length.Goals as goal

pub returns : goal.returns
returns c = one_length c.args.part.now.alive c.args.norms.now c.args.doc c.fieldnorm.result (sym c.is_alive.ensures ∙ c.if-not-is_alive.false) c.fieldnorm.ensures
